-- The lines of connections, of which the last may be cut.
use Rattle.std.proofs.Common.{◌++◌, ◌∷◌, ◌∙◌, [], ℕ, List, Option, append-nil, ap, arith, refl, subst, sym}
use Rattle.std.specs.Io.KnownBytes.{Appends}
use Rattle.std.proofs.KnownBytes.{Appends-trans}
use Rattle.std.proofs.lemmas.List.Concat.{flat_map-append}
use Rattle.desk_http.specs.Writing.{WritesFront}
use Rattle.program_commands.specs.Connections.{Connection, WritesLines, lines_of}
use Rattle.program_commands.specs.Serving.{ending_line}

module _ (was before holds : Option (List ℕ)) where
  -- lines behind a text
  pub lines_behind : (a : List ℕ) (served : List Connection) → Appends was before a → WritesLines (Appends before holds) served → WritesLines (λ lines. Appends was holds (a ++ lines)) served
  lines_behind a served first (lines, last, is, few, (part, rest, cut, wrote)) = (lines, last, is, few, (part, rest, cut, Appends-trans was before holds _ _ first wrote))

  -- one line more
  pub one_more_line : (served : List Connection) (c : Connection) → Appends was before (lines_of served) → Appends before holds (ending_line c.ending) → Appends was holds (lines_of (served ++ c ∷ []))
  one_more_line served c lines line =
      subst (Appends was holds)
      (ap (λ t. lines_of served ++ t) (sym (append-nil (ending_line c.ending))) ∙ sym (flat_map-append (λ (d : Connection). ending_line d.ending) served (c ∷ [])))
      (Appends-trans was before holds _ _ lines line)

  -- a first part of one line more
  pub cut_line : (served : List Connection) (c : Connection) → Appends was before (lines_of served) → WritesFront (Appends before holds) (ending_line c.ending)
      → WritesLines (Appends was holds) (served ++ c ∷ [])
  cut_line served c lines (part, rest, is, wrote) =
      (served, c ∷ [], refl, omega arith, (part, rest, is ∙ sym (append-nil (ending_line c.ending)), Appends-trans was before holds _ _ lines wrote))

-- all lines, each whole
pub whole_lines : (was holds : Option (List ℕ)) (served : List Connection) → Appends was holds (lines_of served) → WritesLines (Appends was holds) served
whole_lines was holds served wrote =
    (served, [], append-nil served, omega arith, ([], [], refl, subst (Appends was holds) (sym (append-nil (lines_of served))) wrote))
