use Rattle.std.proofs.Common.{◌≡◌, ◌++◌, length}
use Rattle.std.specs.Prelude.{map}
use Rattle.std.specs.List.{list_all}
use Rattle.std.specs.Str.{is_utf8}
use Rattle.feed_mapping.proofs.records.push_texts.Given as goal

abbrev pub invariant-loop-rest : goal.invariant-loop-rest
invariant-loop-rest l = record {
  fields : l.fields ++ map (λ t. t.now) l.rest ≡ l.initial.fields ++ map (λ t. t.now) l.texts;
  utf8 : list_all is_utf8 (map (λ t. t.now) l.rest) ≡ list_all is_utf8 (map (λ t. t.now) l.texts);
}

abbrev pub decreases-loop-rest : goal.decreases-loop-rest
decreases-loop-rest l = length l.rest
