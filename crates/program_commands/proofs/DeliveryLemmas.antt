-- One more file of those that were delivered, and the file at which a fault ended it.
use Rattle.std.proofs.Common.{◌≡◌, ◌+◌, ◌<◌, ℕ, Bool, true, false, Option, List, [], ◌∷◌, ◌++◌, Err, refl, sym, ap, subst, ◌∙◌, arith, length, map, cond, nat_eq, not, add-zero, append-nil}
use Rattle.std.specs.Prelude.{◌||◌, All, nat_lt, if◌then◌else◌}
use Rattle.std.specs.Io.KnownBytes.{Appends}
use Rattle.std.proofs.KnownBytes.{Appends-trans}
use Rattle.std.proofs.lemmas.Bool.Decides.{nat_tests}
use Rattle.std.proofs.lemmas.List.{map-append}
use Rattle.std.proofs.lemmas.List.Elements.{All-push}
use Rattle.program_files.specs.Holdings.{Holdings}
use Rattle.price_rules.specs.declared.precedence.Rule.{Rule}
use Rattle.series_rules.proofs.TraceLemmas.{trace_then}
use Rattle.series_rules.specs.Steps.{Asked, Step}
use Rattle.series_rules.specs.Views.{DeskKind, View}
use Rattle.desk_batch.proofs.TalkLemmas.{talk_then}
use Rattle.desk_batch.specs.Batch.{RequestGives}
use Rattle.desk_texts.specs.Requests.{HasRecords, RecordsFit}
use Rattle.desk_batch.specs.Talks.{Stop, Talk, Talks, cut, ended, failed, unsaid}
use Rattle.desk_batch.specs.declared.batch.RequestFault.{RequestFault}
use Rattle.desk_batch.specs.declared.batch.RequestFault.TheVariants as request_fault
use Rattle.program_commands.specs.Deliveries.{AreTexts, Delivers, IsUnasked, ReadFits, delivery_of}
use Rattle.program_commands.proofs.TalkEnds.{deliveries_end, talk_status}
use Rattle.program_commands.specs.CommandEnds.{DeliverEnds}
use Rattle.program_commands.specs.declared.deliver.DeliveryFault.{DeliveryFault}
use Rattle.program_commands.specs.declared.deliver.DeliveryFault.TheVariants as fault

not_none : (n : ℕ) → nat_eq (n + 1) 0 ≡ false
not_none n = grind (arith, nat_tests)

-- whether there is a refusal, with one answer more
pub refused_more : (has b : Bool) (n : ℕ) → has ≡ not (nat_eq n 0) → (has || b) ≡ not (nat_eq (n + cond b 1 0) 0)
refused_more false false n is = is ∙ ap (λ m. not (nat_eq m 0)) (sym (add-zero n))
refused_more true false n is = is ∙ ap (λ m. not (nat_eq m 0)) (sym (add-zero n))
refused_more false true n is = sym (ap not (not_none n))
refused_more true true n is = sym (ap not (not_none n))

-- the status by whether there is a refusal
pub status_by : (status : ℕ) (has : Bool) (n : ℕ) → status ≡ (if has then 1 else 0) → has ≡ not (nat_eq n 0) → status ≡ (if nat_eq n 0 then 0 else 1)
status_by status has n is counted = is ∙ ap (λ b. if b then 1 else 0) counted ∙ turned (nat_eq n 0)
  where
    turned : (b : Bool) → cond {A = ℕ} (not b) 1 0 ≡ cond b 0 1
    turned true = refl
    turned false = refl

pub not_less : (n m : ℕ) → n ≡ m → nat_lt n m ≡ false
not_less n m is = grind (arith, nat_tests)

is_less : (n m : ℕ) → n < m → nat_lt n m ≡ true
is_less n m less = grind (arith, nat_tests)

-- with a fault it is 3, whether there are further files or not
three_by : (b : Bool) (status own : ℕ) → status ≡ 3 → own ≡ 3 → status ≡ (if b then 3 else own)
three_by true status own three same = three
three_by false status own three same = three ∙ sym same

-- how a request ends that has a fault
abbrev pub stop_of : RequestFault → Stop
stop_of (request_fault.Store f) = failed f
stop_of request_fault.Write = cut
stop_of request_fault.Memory = unsaid

stop_is : (f : RequestFault) (steps : List Step) (stop : Stop) → RequestGives (Err f) steps stop → stop ≡ stop_of f
stop_is (request_fault.Store f) steps stop is = is
stop_is request_fault.Write steps stop is = is
stop_is request_fault.Memory steps stop is = is

stop_status : (f : RequestFault) (steps : List Step) → talk_status steps (stop_of f) ≡ 3
stop_status (request_fault.Store f) steps = refl
stop_status request_fault.Write steps = refl
stop_status request_fault.Memory steps = refl

module _ {D : Type 0} {k : DeskKind} (seen : D → View k) (rules : List Rule) (old mid new : D) (was before holds : Option (List ℕ)) (texts : List (List ℕ)) (steps : List Step) (text : List ℕ)
    (talk : Talk (map delivery_of texts) steps text ended) (asked : Asked seen rules old mid steps) (wrote : Appends was before text) where
  -- one more file that was asked
  abbrev pub one_file : (file : List ℕ) (stop : Stop) (gives given : List Step → Stop → Type 0) → (one : Talks (Asked seen rules mid new) (Appends before holds) (delivery_of file ∷ []) gives) → one.stop ≡ stop → given (steps ++ one.steps) stop
      → Talks (Asked seen rules old new) (Appends was holds) (map delivery_of (texts ++ file ∷ [])) given
  one_file file stop gives given one is result = record {
    steps = steps ++ one.steps;
    text = text ++ one.text;
    stop = stop;
    talk = subst (λ rs. Talk rs (steps ++ one.steps) (text ++ one.text) stop) (sym (map-append delivery_of texts (file ∷ [])))
        (talk_then talk (subst (Talk (delivery_of file ∷ []) one.steps one.text) is one.talk));
    were_asked = trace_then seen rules steps one.steps old mid new asked one.were_asked;
    was_written = Appends-trans was before holds text one.text wrote one.was_written;
    result_is = result;
  }

  module _ (named : Holdings) (told : Option (List ℕ)) (names : List (List ℕ)) (have : All HasRecords texts) (tells : AreTexts named told names texts) (less : length texts < length names) (status : ℕ) (three : status ≡ 3) where
    -- at the next file nothing was asked
    unasked : new ≡ mid → Appends before holds [] → DeliverEnds (Asked seen rules old new) (Appends was holds) named told names status
    unasked same nothing =
        let ends = deliveries_end (Asked seen rules old new) (Appends was holds) (map delivery_of texts) (nat_lt (length texts) (length names)) status record {
          steps = steps;
          text = text;
          stop = ended;
          talk = talk;
          were_asked = subst (λ d. Asked seen rules old d steps) (sym same) asked;
          was_written = subst (Appends was holds) (append-nil text) (Appends-trans was before holds text [] wrote nothing);
          result_is = three ∙ sym (ap (λ b. if b then 3 else talk_status steps ended) (is_less (length texts) (length names) less));
        } in (
          texts,
          tells,
          have,
          ends.0,
          ends.1,
          ends.2,
        )

    -- a fault ended it at the next file
    pub stopped_at : (file : List ℕ) (f : DeliveryFault) → AreTexts named told names (texts ++ file ∷ []) → Delivers (Asked seen rules mid new) (Appends before holds) file (Err f)
        → DeliverEnds (Asked seen rules old new) (Appends was holds) named told names status
    stopped_at file (fault.Unreadable why) more is = unasked is.0 is.1
    stopped_at file (fault.Records f) more is = unasked is.1 is.2
    stopped_at file (fault.Request f) more is =
        let ends = deliveries_end (Asked seen rules old new) (Appends was holds) (map delivery_of (texts ++ file ∷ [])) (nat_lt (length (texts ++ file ∷ [])) (length names)) status
        (one_file file (stop_of f) (RequestGives (Err f)) (λ all stop. status ≡ (if nat_lt (length (texts ++ file ∷ [])) (length names) then 3 else talk_status all stop)) is.1 (stop_is f is.1.steps is.1.stop is.1.result_is)
        (three_by (nat_lt (length (texts ++ file ∷ [])) (length names)) status (talk_status (steps ++ is.1.steps) (stop_of f)) three (stop_status f (steps ++ is.1.steps)))) in (
          texts ++ file ∷ [],
          more,
          All-push HasRecords texts file have is.0,
          ends.0,
          ends.1,
          ends.2,
        )

-- a file that could not be opened was not asked
pub unopened_delivers : (asked : List Step → Type 0) (written : List ℕ → Type 0) (text : List ℕ) (f : DeliveryFault) → IsUnasked f → asked [] → written [] → Delivers asked written text (Err f)
unopened_delivers asked written text (fault.Unreadable why) is none nothing = (none, nothing)
unopened_delivers asked written text (fault.Records f) is none nothing = (subst (RecordsFit text) (sym is) tt, none, nothing)
unopened_delivers asked written text (fault.Request f) is none nothing = absurd is

-- nor one that was not read
pub unread_delivers : (asked : List Step → Type 0) (written : List ℕ → Type 0) (text : List ℕ) (f : DeliveryFault) → ReadFits text (Err f) → asked [] → written [] → Delivers asked written text (Err f)
unread_delivers asked written text (fault.Unreadable why) fits none nothing = (none, nothing)
unread_delivers asked written text (fault.Records f) fits none nothing = (fits, none, nothing)
unread_delivers asked written text (fault.Request f) fits none nothing = absurd fits
