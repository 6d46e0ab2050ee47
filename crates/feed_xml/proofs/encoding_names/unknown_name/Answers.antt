use Rattle.std.proofs.Common.{◌≡◌, ◌∙◌, ℕ, Bool, false, List, Option, Some, None, ap, subst, sym}
use Rattle.std.specs.Borrow.{Bor}
use Rattle.std.specs.Option.{option_or}
use Rattle.std.specs.Prelude.{codes, if◌then◌else◌, option_map, unwrap_or}
use Rattle.feed_xml.specs.declared.encodings.Encoding.{Encoding}
use Rattle.feed_xml.specs.declared.encodings.Encoding.TheVariants.{Utf8}
use Rattle.feed_xml.specs.EncodingNames.{declared_name, encoding_of, is_utf16, marked}
use Rattle.feed_xml.proofs.encoding_names.unknown_name.Goals as goal

always_some : {A G : Type 0} (o : Option A) (x : A) → option_or o (Some x) ≡ None → G
always_some None x e = absurd cc
always_some (Some y) x e = absurd cc

-- without a mark of UTF-16 and without a name the encoding is UTF-8
pub returns-in-None : goal.returns-in-None
returns-in-None c =
    let head = c.args.head.now in
    let utf8 : Encoding × ℕ = (Utf8, 0) in
    let unmarked : is_utf16 head ≡ false = sym c.is_utf16.ensures ∙ c.if-is_utf16.false in
    let none : declared_name head ≡ None = sym c.declared_name.ensures ∙ ap (option_map (λ (n : Bor (List ℕ)). n.now)) c.in-None.is in
    let by_name : List ℕ → Option (Encoding × ℕ) = λ name. option_or (marked head) (option_map (λ (e : Encoding). (e, 0)) (encoding_of name)) in
    always_some (marked head) utf8
    (subst (λ (n : Option (List ℕ)). by_name (unwrap_or n (codes "utf8")) ≡ None) none
    (subst (λ (b : Bool). (if b then None else by_name (unwrap_or (declared_name head) (codes "utf8"))) ≡ None) unmarked c.requires))
