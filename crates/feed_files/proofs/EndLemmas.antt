-- How one FILE ends.
use Rattle.std.proofs.Common.{◌≡◌, ◌<◌, ◌⊎◌, ◌∙◌, ℕ, List, [], Option, Some, None, Bool, true, false, Ok, Err, Result, inl, inr, refl, sym, subst}
use Rattle.std.specs.Prelude.{IfErr, IfOk, ⊤}
use Rattle.std.specs.List.{concat, fold}
use Rattle.program_files.specs.Holdings.{Holdings}
use Rattle.program_files.specs.Names.{is_packed}
use Rattle.program_files.specs.Texts.{IsWritten, with_text}
use Rattle.feed_conversion.specs.Conversion.{Options}
use Rattle.feed_conversion.specs.Outcomes.{ExplainsFault, Yields}
use Rattle.feed_conversion.specs.Packing.{Converted}
use Rattle.feed_conversion.specs.Tallies.{is_flawed}
use Rattle.feed_conversion.specs.declared.tally.Counted.{Counted}
use Rattle.feed_conversion.specs.declared.refusal.Fault.{Fault}
use Rattle.feed_files.specs.Ends.{AreTold, Asking, IsEnd, IsOfCounted, IsRefusal, IsUnconverted, asking, file_end, is_converted}
use Rattle.feed_files.specs.declared.ended.Ended.{Ended}
use Rattle.feed_files.specs.declared.ended.Ended.TheVariants as ended
use Rattle.feed_files.proofs.KeptLemmas.{all_told}

-- what a store that had some texts has of a FILE of these bytes whose reading ended so: with those
-- of its messages, where it was converted. With part: what it makes of one text more
abbrev pub IsTaken : {T : Type 0} → (T → List ℕ → T) → Options → Option (List ℕ) → T → T → Ended
    → Type 0
IsTaken with_part o bytes before after ended.Refused =
    (f : Fault) × IsRefusal f × ExplainsFault bytes o f
IsTaken with_part o bytes before after ended.Packed = ⊥
IsTaken with_part o bytes before after ended.Fault = ⊤
IsTaken with_part o bytes before after converted =
    (made : Converted) × Yields bytes o (Ok made) × IsOfCounted made.counted converted
    × (after ≡ fold with_part before made.parts)

-- a FILE that was converted, of whose products this is told
pub converted_taken : {T : Type 0} (with_part : T → List ℕ → T) (o : Options) (bytes : Option (List ℕ)) (before after : T) (told : Counted) (e : Ended) (made : Converted)
    → Yields bytes o (Ok made) → after ≡ fold with_part before made.parts → told ≡ made.counted → IsOfCounted told e → IsTaken with_part o bytes before after e
converted_taken with_part o bytes before after told ended.Done made says kept is none = (made, says, subst (λ k. is_flawed k ≡ false) is none, kept)
converted_taken with_part o bytes before after told ended.LeftOut made says kept is some = (made, says, subst (λ k. is_flawed k ≡ true) is some, kept)
converted_taken with_part o bytes before after told ended.Refused made says kept is h = absurd h
converted_taken with_part o bytes before after told ended.Packed made says kept is h = absurd h
converted_taken with_part o bytes before after told ended.Fault made says kept is h = absurd h

-- a FILE that was not converted
pub stopped_taken : {T : Type 0} (with_part : T → List ℕ → T) (o : Options) (bytes : Option (List ℕ)) (before after : T) (e : Ended) (f : Fault)
    → IsUnconverted f e → ExplainsFault bytes o f → IsTaken with_part o bytes before after e
stopped_taken with_part o bytes before after e f (inl is) explains = subst (IsTaken with_part o bytes before after) (sym is) tt
stopped_taken with_part o bytes before after e f (inr refused) explains = subst (IsTaken with_part o bytes before after) (sym refused.0) (f, refused.1, explains)

-- a FILE that was read so
pub read_taken : {T : Type 0} (with_part : T → List ℕ → T) (o : Options) (bytes : Option (List ℕ)) (before after : T) (r : Result Counted Fault) (e : Ended)
    → IfOk r (λ told. (made : Converted) × Yields bytes o (Ok made) × (told ≡ made.counted) × (after ≡ fold with_part before made.parts))
    → IfErr r (λ f. ExplainsFault bytes o f)
    → IfOk r (λ told. IsOfCounted told e) → IfErr r (λ f. IsUnconverted f e)
    → IsTaken with_part o bytes before after e
read_taken with_part o bytes before after (Ok told) e converted explains of_told stopped =
    converted_taken with_part o bytes before after told e converted.0 converted.1 converted.3 converted.2 of_told
read_taken with_part o bytes before after (Err f) e converted explains of_told stopped = stopped_taken with_part o bytes before after e f stopped explains

-- what was written of all texts
written_all : {E : Type 0} (parts : List (List ℕ)) (texts : Option (List ℕ)) (r : Result (Unit {0}) E) (written : List ℕ)
    → texts ≡ fold with_text (Some []) parts → IsWritten texts r written → AreTold parts → IsWritten (Some (concat parts)) r written
written_all parts texts r written kept is are = subst (λ t. IsWritten t r written) (kept ∙ all_told parts are) is

-- a FILE whose messages were written to standard output
pub out_done : {E : Type 0} (o : Options) (name : List ℕ) (bytes texts : Option (List ℕ)) (holds : Holdings) (e : Ended) (r : Result (Unit {0}) E) (u : Unit {0})
    (written : List ℕ) → is_converted e ≡ true → r ≡ Ok u → IsTaken with_text o bytes (Some []) texts e → IsWritten texts r written
    → IsEnd (asking o None) name bytes (file_end e written holds holds)
out_done {E} o name bytes texts holds e r u written is ok taken all = go e is taken (subst (λ x. IsWritten texts x written) ok all)
  where
    go : (e : Ended) → is_converted e ≡ true → IsTaken with_text o bytes (Some []) texts e → IsWritten {E = E} texts (Ok u) written
        → IsEnd (asking o None) name bytes (file_end e written holds holds)
    go ended.Done is taken all = (taken.0, taken.1, taken.2, (refl, λ are. written_all taken.0.parts texts (Ok u) written taken.3 all are))
    go ended.LeftOut is taken all = (taken.0, taken.1, taken.2, (refl, λ are. written_all taken.0.parts texts (Ok u) written taken.3 all are))
    go ended.Refused is taken all = absurd cc
    go ended.Packed is taken all = absurd taken
    go ended.Fault is taken all = absurd cc

-- a FILE whose messages could not be written there
pub out_failed : {E : Type 0} (o : Options) (name : List ℕ) (bytes texts : Option (List ℕ)) (holds : Holdings) (e after : Ended) (r : Result (Unit {0}) E) (f : E)
    (written : List ℕ) → is_converted e ≡ true → r ≡ Err f → after ≡ ended.Fault → IsTaken with_text o bytes (Some []) texts e → IsWritten texts r written
    → IsEnd (asking o None) name bytes (file_end after written holds holds)
out_failed {E} o name bytes texts holds e after r f written is err fault taken front =
    subst (λ x. IsEnd (asking o None) name bytes (file_end x written holds holds)) (sym fault) (go e is taken (subst (λ x. IsWritten texts x written) err front))
  where
    go : (e : Ended) → is_converted e ≡ true → IsTaken with_text o bytes (Some []) texts e → IsWritten texts (Err f) written
        → IsEnd (asking o None) name bytes (file_end ended.Fault written holds holds)
    go ended.Done is taken front = inr (taken.0, taken.1, (refl, λ are. written_all taken.0.parts texts (Err f) written taken.3 front are))
    go ended.LeftOut is taken front = inr (taken.0, taken.1, (refl, λ are. written_all taken.0.parts texts (Err f) written taken.3 front are))
    go ended.Refused is taken front = absurd cc
    go ended.Packed is taken front = absurd taken
    go ended.Fault is taken front = absurd cc

-- a FILE that was not converted leaves nothing
pub stopped_end : {T : Type 0} (with_part : T → List ℕ → T) (a : Asking) (name : List ℕ) (bytes : Option (List ℕ)) (before after : T) (holds : Holdings) (e : Ended)
    → is_converted e ≡ false → IsTaken with_part a.options bytes before after e → IsEnd a name bytes (file_end e [] holds holds)
stopped_end with_part a name bytes before after holds ended.Done is taken = absurd cc
stopped_end with_part a name bytes before after holds ended.LeftOut is taken = absurd cc
stopped_end with_part a name bytes before after holds ended.Refused is taken = ((refl, refl), taken)
stopped_end with_part a name bytes before after holds ended.Packed is taken = absurd taken
stopped_end with_part a name bytes before after holds ended.Fault is taken = inl (refl, refl)

-- a FILE that was not looked into
pub packed_end : (a : Asking) (name : List ℕ) (bytes : Option (List ℕ)) (holds : Holdings) (e : Ended) → is_packed name ≡ true
    → (e ≡ ended.Packed) ⊎ (e ≡ ended.Fault) → IsEnd a name bytes (file_end e [] holds holds)
packed_end a name bytes holds e packed (inl is) = subst (λ x. IsEnd a name bytes (file_end x [] holds holds)) (sym is) ((refl, refl), packed)
packed_end a name bytes holds e packed (inr is) = subst (λ x. IsEnd a name bytes (file_end x [] holds holds)) (sym is) (inl (refl, refl))

-- a FILE that could not be opened
pub fault_end : (a : Asking) (name : List ℕ) (bytes : Option (List ℕ)) (holds : Holdings) (e : Ended) → e ≡ ended.Fault → IsEnd a name bytes (file_end e [] holds holds)
fault_end a name bytes holds e is = subst (λ x. IsEnd a name bytes (file_end x [] holds holds)) (sym is) (inl (refl, refl))

abbrev FolderEnd : Options → List ℕ → List ℕ → Option (List ℕ) → Holdings → Holdings → Ended → Type 0
FolderEnd o folder name bytes before after e = IsEnd (asking o (Some folder)) name bytes (file_end e [] before after)

-- a FILE whose messages went into a folder
pub folder_done : {T : Type 0} (with_part : T → List ℕ → T) (o : Options) (folder name : List ℕ) (bytes : Option (List ℕ)) (was now : T) (e : Ended) (before after : Holdings)
    → is_converted e ≡ true → IsTaken with_part o bytes was now e → FolderEnd o folder name bytes before after e
folder_done with_part o folder name bytes was now ended.Done before after is taken = (taken.0, taken.1, taken.2, refl)
folder_done with_part o folder name bytes was now ended.LeftOut before after is taken = (taken.0, taken.1, taken.2, refl)
folder_done with_part o folder name bytes was now ended.Refused before after is taken = absurd cc
folder_done with_part o folder name bytes was now ended.Packed before after is taken = absurd taken
folder_done with_part o folder name bytes was now ended.Fault before after is taken = absurd cc

-- one whose messages could not
pub folder_failed : {T : Type 0} (with_part : T → List ℕ → T) (o : Options) (folder name : List ℕ) (bytes : Option (List ℕ)) (was now : T) (e : Ended) (before after : Holdings)
    → is_converted e ≡ true → IsTaken with_part o bytes was now e → FolderEnd o folder name bytes before after ended.Fault
folder_failed with_part o folder name bytes was now ended.Done before after is taken = inr (taken.0, taken.1, refl)
folder_failed with_part o folder name bytes was now ended.LeftOut before after is taken = inr (taken.0, taken.1, refl)
folder_failed with_part o folder name bytes was now ended.Refused before after is taken = absurd cc
folder_failed with_part o folder name bytes was now ended.Packed before after is taken = absurd taken
folder_failed with_part o folder name bytes was now ended.Fault before after is taken = absurd cc
