-- The head of a request in the bytes of a connection, on the bytes alone.
use Rattle.std.specs.Prelude.{◌≡◌, ℕ, ◌≤◌, Bool, false, ◌||◌, ◌==◌, nat_eq, nat_lt, if◌then◌else◌, List, [], ◌∷◌, ◌++◌, length, take}
use Rattle.std.specs.List.{list_any, starts_with}
use Rattle.httparse.specs.Grammar.{RequestHead, ReadsRequest, print_request}
use Rattle.http_requests.specs.declared.refusal.Refusal.{Refusal}
use Rattle.http_requests.specs.declared.refusal.Refusal.TheVariants.{TargetTooLong, HeadTooLarge, BadHead}

-- the maximum length of a head, in bytes
abbrev pub head_limit : ℕ
head_limit = 16384

-- the input begins with this head, which is within the limit, and then has the rest
pub record HasHead (input : List ℕ) (h : RequestHead) (rest : List ℕ) : Type 0 where
  pub reads : ReadsRequest input h rest
  pub fits : length (print_request h) ≤ head_limit

-- the input begins with no head within the limit
abbrev pub HasNoHead : List ℕ → Type 0
HasNoHead input = (h : RequestHead) (rest : List ℕ) → ¬ (HasHead input h rest)

-- the input begins with no head within the limit, whatever bytes follow
abbrev pub IsNeverHead : List ℕ → Type 0
IsNeverHead input = (more : List ℕ) → HasNoHead (input ++ more)

-- the bytes from the first that is neither CR nor LF
abbrev pub skip_line_ends : List ℕ → List ℕ
skip_line_ends [] = []
skip_line_ends (b ∷ bytes) = if (b == 13) || (b == 10) then skip_line_ends bytes else b ∷ bytes

-- the bytes begin with an LF and then an LF or a CR LF
abbrev pub begins_empty_line : List ℕ → Bool
begins_empty_line bytes = starts_with nat_eq bytes (10 ∷ 10 ∷ []) || starts_with nat_eq bytes
    (10 ∷ 13 ∷ 10 ∷ [])

-- somewhere an empty line ends a line
abbrev pub has_empty_line : List ℕ → Bool
has_empty_line [] = false
has_empty_line (b ∷ bytes) = begins_empty_line (b ∷ bytes) || has_empty_line bytes

-- what an input without a head is refused with, by the bytes within the limit, which are these
-- without the line ends in front
abbrev pub refusal_of_full : List ℕ → Refusal
refusal_of_full text =
    if list_any (λ b. b == 10) text
    then (if has_empty_line text then BadHead else HeadTooLarge)
    else TargetTooLong

-- what an input without a head is refused with
unfoldable pub refusal_of : List ℕ → Refusal
refusal_of input =
    if nat_lt (length input) head_limit
    then BadHead
    else refusal_of_full (skip_line_ends (take head_limit input))

-- the input has no head, and this is why: with fewer than 16,384 bytes, a bad one; else by the
-- first 16,384, without an end of line a target too long, with no empty line a head too large, else
-- a bad one
pub record IsRefused (input : List ℕ) (why : Refusal) : Type 0 where
  pub none : HasNoHead input
  pub why_is : refusal_of input ≡ why
