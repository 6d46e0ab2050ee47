-- Reading a text of country codes.
use Rattle.std.specs.Prelude.{ℕ, List, [], ◌∷◌, None, ◌≡◌, ◌<◌, length, option_map}
use Rattle.onix_terms.specs.Territory.{codes_in}
use Rattle.onix_terms.specs.declared.countries.Next.{Next}
use Rattle.onix_terms.specs.declared.countries.Next.TheVariants as next

-- what a text of codes begins with, and what that makes of it
abbrev pub BeginsWith : List ℕ → Next → Type 0
BeginsWith text next.Nothing = text ≡ []
BeginsWith text (next.Space more) =
    (length more.now < length text) × (codes_in text ≡ codes_in more.now)
BeginsWith text (next.Code code more) =
    (length more.now < length text)
    × (codes_in text ≡ option_map (λ codes. code ∷ codes) (codes_in more.now))
BeginsWith text next.Wrong = codes_in text ≡ None
