-- How a conversion ends, by how its reading did.
use Rattle.std.proofs.Common.{◌≡◌, ℕ, List, [], fold, refl, sym, ap, subst, ◌∙◌}
use Rattle.std.specs.Prelude.{Option, Result, Ok, Err}
use Rattle.feed_xml.specs.EncodingNames.{IsTextOf}
use Rattle.feed_xml.specs.Tree.{Content}
use Rattle.feed_outline.specs.Dialect.{Dialect}
use Rattle.feed_outline.specs.Message.{IsMessage}
use Rattle.feed_outline.specs.Nodes.{nodes_in}
use Rattle.feed_outline.specs.Outline.{parts_of}
use Rattle.feed_outline.specs.Names.{Word}
use Rattle.feed_conversion.specs.declared.tally.Counted.{Counted}
use Rattle.feed_conversion.specs.declared.refusal.Fault.{Fault}
use Rattle.feed_conversion.specs.declared.refusal.Fault.TheVariants as fault
use Rattle.feed_conversion.specs.declared.refusal.Refusal.{Refusal}
use Rattle.feed_conversion.specs.Conversion.{Options, conversion, vocabulary_by}
use Rattle.feed_conversion.specs.Outcomes.{Yields}
use Rattle.feed_conversion.specs.private.Endings.{Comes, Ends}
use Rattle.feed_conversion.specs.Packing.{Converted}
use Rattle.feed_conversion.specs.private.Stages.{State, Taken, finished, taken}
use Rattle.feed_conversion.proofs.PackingLaws.{behind, result_map}
use Rattle.feed_conversion.proofs.StageLaws.{Tell, after_lines, conversion_is, start}

value : {A E : Type 0} → A → Result A E → A
value other (Ok x) = x
value other (Err e) = other

reason : {A E : Type 0} → E → Result A E → E
reason other (Ok x) = other
reason other (Err e) = e

comes : {P : Type 0} (k : P → List ℕ → P) (bytes : Option (List ℕ)) (o : Options) (before : Taken P) (parts : P) (ended : Result Counted Fault) (told : Result Converted Refusal)
    → ((found : Result Converted Refusal) → told ≡ found → Yields bytes o found)
    → Ends ended parts (result_map (behind k before) told) → Comes k bytes o before ended parts
unfolding value reason
comes {P} k bytes o before parts (Ok wrong) (Ok made) says e =
    let is : taken parts wrong ≡ behind k before made = sym (ap (value (taken parts wrong)) e) in (
      (made, says (Ok made) refl, ap (λ (c : Taken P). c.counted) is, ap (λ (c : Taken P). c.parts) is),
      tt,
    )
comes k bytes o before parts (Ok wrong) (Err refused) says e = absurd cc
comes k bytes o before parts (Err (fault.Refused refusal)) (Ok made) says e = absurd cc
comes k bytes o before parts (Err (fault.Refused refusal)) (Err refused) says e = (tt, says (Err refusal) (ap Err (ap (reason refusal) e)))
comes k bytes o before parts (Err (fault.Unread unread said)) told says e = absurd e
comes k bytes o before parts (Err fault.Memory) told says e = (tt, tt)

read : {P : Type 0} (k : P → List ℕ → P) → Tell → (bytes : Option (List ℕ)) (o : Options) (before : Taken P) (parts : P) (text : List ℕ) (d : Dialect) (inside : Content)
    → IsTextOf bytes text → IsMessage (vocabulary_by o.terms) text d inside
    → (first s : State P) → first ≡ start o before → s ≡ fold (after_lines k) first (parts_of (nodes_in (vocabulary_by o.terms) d [] inside))
    → (ended : Result Counted Fault) → Ends ended parts (finished k s) → Comes k bytes o before ended parts
read {P} k tell bytes o before parts text d inside encoded message first s begins is ended e =
    let told : finished k s ≡ result_map (behind k before) (conversion o (nodes_in (vocabulary_by o.terms) d [] inside)) =
    ap (finished k) (is ∙ ap (λ (t : State P). fold (after_lines k) t (parts_of (nodes_in (vocabulary_by o.terms) d [] inside))) begins) ∙ conversion_is k tell o before (nodes_in (vocabulary_by o.terms) d [] inside) in
    comes k bytes o before parts ended (conversion o (nodes_in (vocabulary_by o.terms) d [] inside))
    (λ found same. record {
      text = text;
      dialect = d;
      inside = inside;
      encoded = encoded;
      message = message;
      conversion = same;
    }) (rw told at e)

-- the same, of a message that was read with the vocabulary of the options
pub read-by : {P : Type 0} (k : P → List ℕ → P) → Tell → (bytes : Option (List ℕ)) (o : Options) (vocabulary : List Word) → vocabulary_by o.terms ≡ vocabulary → (before : Taken P) (parts : P) (text : List ℕ) (d : Dialect) (inside : Content)
    → IsTextOf bytes text → IsMessage vocabulary text d inside
    → (first s : State P) → first ≡ start o before → s ≡ fold (after_lines k) first (parts_of (nodes_in vocabulary d [] inside))
    → (ended : Result Counted Fault) → Ends ended parts (finished k s) → Comes k bytes o before ended parts
read-by k tell bytes o vocabulary same before parts text d inside encoded message first s begins is ended e =
    read k tell bytes o before parts text d inside encoded (subst (λ (v : List Word). IsMessage v text d inside) (sym same) message) first s begins
    (is ∙ ap (λ (v : List Word). fold (after_lines k) first (parts_of (nodes_in v d [] inside))) (sym same)) ended e
