-- The fold of what stands, with one more at its end.
use Rattle.std.proofs.Common.{◌≡◌, List, [], ◌∷◌, ◌++◌, Some, length, refl}
use Rattle.std.specs.Prelude.{slice_get}
use Rattle.std.specs.FinMap as map
use Rattle.std.proofs.Math.Seq.{take-append_seam}
use Rattle.catalogue_rules.specs.Records.{ByReference}
use Rattle.series_rules.specs.Series.{after_all, after_standing, effect_of_standing, kept_of}
use Rattle.series_rules.specs.declared.requests.Standing.{Standing}
use Rattle.series_rules.proofs.FrontLemmas.{after_all_append}

pub slice_get_last : {A : Type 0} (hs : List A) (h : A) → slice_get (hs ++ h ∷ []) (length hs) ≡ Some h
slice_get_last [] h = refl
slice_get_last (x ∷ xs) h = slice_get_last xs h

-- the catalogue after one more at the end
pub after_all_last : (m : ByReference) (hs : List Standing) (h : Standing) → after_all m (hs ++ h ∷ []) ≡ after_standing (after_all m hs) h
after_all_last m hs h = after_all_append m hs (h ∷ [])

-- what one more at the end did
pub kept_of_last : (hs : List Standing) (h : Standing) → kept_of (hs ++ h ∷ []) (length hs) ≡ effect_of_standing (after_all map.empty hs) h
kept_of_last hs h = rw (take-append_seam hs (h ∷ []), slice_get_last hs h) refl
