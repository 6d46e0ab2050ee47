-- What stands in a DOCTYPE, which is passed over.
use Rattle.std.specs.Prelude.{ℕ, Bool, true, false, not, ◌&&◌, ◌==◌, List, [], ◌∷◌}
use Rattle.std.specs.Prelude.{unwrap_or}
use Rattle.feed_xml.specs.Tables.{entry}
use Rattle.feed_xml.specs.declared.skim.Skim.{Skim}
use Rattle.feed_xml.specs.declared.skim.Skim.TheVariants.{Outside, Quoted, Inside, InsideQuoted}
use Rattle.feed_xml.specs.declared.skim.Skim.TheVariants.{Opened, Exclaimed, Dashed, Comment}
use Rattle.feed_xml.specs.declared.skim.Skim.TheVariants.{CommentDash, CommentDashes, Instruction}
use Rattle.feed_xml.specs.declared.skim.Skim.TheVariants.{InstructionMark}

-- what a byte leads to by a table, or what any other byte leads to
abbrev pub on : List (ℕ × Skim) → Skim → ℕ → Skim
on table other b = unwrap_or (entry (λ c. b == c) table) other

-- Outside and inside of the brackets, quotes hide all but their end; inside, comments and
-- instructions do too.
abbrev pub next_skim : Skim → ℕ → Skim
next_skim Outside = on ((34, Quoted 34) ∷ (39, Quoted 39) ∷ (91, Inside) ∷ []) Outside
next_skim (Quoted q) = on ((q, Outside) ∷ []) (Quoted q)
next_skim Inside =
    on ((34, InsideQuoted 34) ∷ (39, InsideQuoted 39) ∷ (60, Opened) ∷ (93, Outside) ∷ []) Inside
next_skim (InsideQuoted q) = on ((q, Inside) ∷ []) (InsideQuoted q)
next_skim Opened = on ((33, Exclaimed) ∷ (63, Instruction) ∷ []) Inside
next_skim Exclaimed = on ((45, Dashed) ∷ []) Inside
next_skim Dashed = on ((45, Comment) ∷ []) Inside
next_skim Comment = on ((45, CommentDash) ∷ []) Comment
next_skim CommentDash = on ((45, CommentDashes) ∷ []) Comment
next_skim CommentDashes = on ((62, Inside) ∷ (45, CommentDashes) ∷ []) Comment
next_skim Instruction = on ((63, InstructionMark) ∷ []) Instruction
next_skim InstructionMark = on ((62, Inside) ∷ (63, InstructionMark) ∷ []) Instruction

-- a > there ends the DOCTYPE
abbrev pub ends_skim : Skim → ℕ → Bool
ends_skim Outside b = b == 62
ends_skim other b = false

abbrev pub is_outside : Skim → Bool
is_outside Outside = true
is_outside other = false

-- the text has no end in it, and one may follow it
abbrev pub is_skimmed : Skim → List ℕ → Bool
is_skimmed s [] = is_outside s
is_skimmed s (b ∷ text) = not (ends_skim s b) && is_skimmed (next_skim s b) text
