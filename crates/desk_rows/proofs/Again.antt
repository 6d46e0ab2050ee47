-- A number that has something already, and one that has nothing.
use Rattle.std.proofs.Common.{◌≡◌, ℕ, Bool, true, false, List, ◌∷◌, Option, Some, None, IfSome, codes, refl, sym, ap, ◌∙◌, subst, cond, ◌⊎◌, inl, inr}
use Rattle.std.specs.Prelude.{option_map, bytes_eq}
use Rattle.std.specs.Cmp.Lexicographic.{pointwise_decides}
use Rattle.std.proofs.lemmas.Bool.{cases_eq}
use Rattle.std.proofs.lemmas.Slice.Eq.{bytes_eq-Decides}
use Rattle.desk_tables.specs.Rows.{DeskRows}
use Rattle.onix_records.specs.ContentsText.{contents_text}
use Rattle.onix_records.specs.SameContents.{same_contents, same_product-Decides}
use Rattle.onix_records.specs.declared.agreements.Agreement.{Agreement}
use Rattle.onix_records.specs.declared.parts.Product.{Product}
use Rattle.series_rules.specs.Agreements.{named}
use Rattle.series_rules.specs.Answers.{answer_against, placed_answer, waived_by}
use Rattle.series_rules.proofs.FirstLemmas.{first_again, first_other}
use Rattle.series_rules.specs.Firsts.{first_at}
use Rattle.series_rules.specs.Series.{front_of}
use Rattle.series_rules.specs.declared.answers.DeliveryAnswer.TheVariants as delivery
use Rattle.series_rules.specs.declared.answers.WaiveAnswer.TheVariants as waiver
use Rattle.series_rules.specs.declared.requests.Request.{Request}
use Rattle.series_rules.specs.declared.requests.Standing.{Standing}
use Rattle.series_rules.specs.declared.requests.Standing.TheVariants.{Message, Waived}
use Rattle.desk_rows.specs.Answering.{IsDelivered}
use Rattle.desk_rows.specs.ContentLemmas.{stands_by_content}
use Rattle.desk_rows.specs.Stands.{StandsFor, IsFor, IsNew, stored_text}
use Rattle.desk_rows.specs.Texts.{IsReadable, TextsTellApart, standing_text}
use Rattle.desk_rows.proofs.Fronts.{stored_is}
use Rattle.desk_rows.proofs.Lookups.{same_bytes}
use Rattle.desk_rows.proofs.RequestRows.{cases_name}

-- ---- what stands at a number stays

same_again : (L : List Request) (r : Request) (a : Agreement) (n : ℕ) (h g : Standing) → IsFor L r a n h → first_at L a.name n ≡ Some g → (t : List ℕ) (m : ℕ) → first_at L t m ≡ first_at (r ∷ L) t m
same_again L r a n h g is has t m = go (cases_name t a.name) (cases_eq m n)
  where
    elsewhere : ((a.name ≡ t) × (n ≡ m) → ⊥) → first_at L t m ≡ first_at (r ∷ L) t m
    elsewhere other = sym (first_other L r (record { series = a.name; number = n; standing = h }) is.admits t m other)

    go : (t ≡ a.name) ⊎ (¬ (t ≡ a.name)) → (m ≡ n) ⊎ (¬ (m ≡ n)) → first_at L t m ≡ first_at (r ∷ L) t m
    go (inr o) q = elsewhere (λ i. o (sym i.0))
    go (inl i) (inr o) = elsewhere (λ j. o (sym j.1))
    go (inl i) (inl j) =
        let at : first_at L t m ≡ Some g = ap (λ s. first_at L s m) i ∙ ap (first_at L a.name) j ∙ has in
        at ∙ sym (first_again L r t m g at)

-- so the tables stand for the list with the request too
again_stands : (rows : DeskRows) (L : List Request) (r : Request) (a : Agreement) (n : ℕ) (h g : Standing) → StandsFor rows L → IsFor L r a n h → first_at L a.name n ≡ Some g → StandsFor rows (r ∷ L)
again_stands rows L r a n h g stands is has = stands_by_content rows L (r ∷ L) (record { agreements = λ s. ap (λ as'. named as' s) (sym is.left); firsts = same_again L r a n h g is has }) stands

-- ---- what is stored

-- what stands where that text is stored
stored_standing : (o : Option Standing) (t : List ℕ) → Some t ≡ option_map standing_text o → (g : Standing) × (o ≡ Some g) × (t ≡ standing_text g)
stored_standing None t e = absurd cc
stored_standing (Some g) t e = (g, refl, cc)

found_stored : (rows : DeskRows) (L : List Request) (r : Request) (a : Agreement) (n : ℕ) (h : Standing) (s : List ℕ) (o : Option (List ℕ)) → StandsFor rows L → IsFor L r a n h → s ≡ a.name → o ≡ stored_text s n rows → o ≡ option_map standing_text (first_at L a.name n)
found_stored rows L r a n h s o stands is same e = e ∙ ap (λ s. stored_text s n rows) same ∙ stored_is rows L a n stands is.agreed is.above

-- nothing is stored where nothing stands
pub nothing_stored : (rows : DeskRows) (L : List Request) (r : Request) (a : Agreement) (n : ℕ) (h : Standing) (s : List ℕ) → StandsFor rows L → IsFor L r a n h → s ≡ a.name → None ≡ stored_text s n rows → IsNew L r a n h
nothing_stored rows L r a n h s stands is same e = (is, go (first_at L a.name n) (found_stored rows L r a n h s None stands is same e))
  where
    go : (o : Option Standing) → None ≡ option_map standing_text o → o ≡ None
    go None i = refl
    go (Some g) i = absurd cc

-- it stands there still, and can be read back
pub record IsThere (rows : DeskRows) (L : List Request) (r : Request) (a : Agreement) (n : ℕ) (t : List ℕ) : Type 0 where
  pub standing : Standing
  pub readable : IsReadable standing
  pub text : t ≡ standing_text standing
  pub still : first_at (r ∷ L) a.name n ≡ Some standing
  pub stands : StandsFor rows (r ∷ L)

readable_there : (o : Option Standing) (g : Standing) → o ≡ Some g → IfSome o IsReadable → IsReadable g
readable_there o g e kept = subst (λ x. IfSome x IsReadable) e kept

pub is_there : (rows : DeskRows) (L : List Request) (r : Request) (a : Agreement) (n : ℕ) (h : Standing) (s t : List ℕ) → StandsFor rows L → IsFor L r a n h → s ≡ a.name → Some t ≡ stored_text s n rows → IsThere rows L r a n t
is_there rows L r a n h s t stands is same e =
    let g = stored_standing (first_at L a.name n) t (found_stored rows L r a n h s (Some t) stands is same e) in
    record {
      standing = g.0;
      readable = readable_there (first_at L a.name n) g.0 g.1 ((stands.series a is.agreed).2.can_be_kept.readable n);
      text = g.2;
      still = sym (same_again L r a n h g.0 is g.1 a.name n) ∙ g.1;
      stands = again_stands rows L r a n h g.0 stands is g.1;
    }

-- ---- the answers

unequal : (x y : List ℕ) → bytes_eq x y ≡ false → x ≡ y → ⊥
unequal x y e i = let eq : bytes_eq x y ≡ true = ap (bytes_eq x) (sym i) ∙ same_bytes x in absurd cc

same_itself : (c : List Product) → same_contents c c ≡ true
unfolding same_contents
same_itself c = (pointwise_decides same_product-Decides c c).1 refl

same_are : (c d : List Product) → same_contents c d ≡ true → c ≡ d
unfolding same_contents
same_are c d e = (pointwise_decides same_product-Decides c d).0 e

pub against_same : (hs : List Standing) (s : List ℕ) (from n : ℕ) (c : List Product) (o : Option Standing) → o ≡ Some (Message c) → placed_answer hs s from n ≡ answer_against hs s from n c o
against_same hs s from n c o is = sym (ap (answer_against hs s from n c) is ∙ rw (same_itself c) refl)

against_other : (hs : List Standing) (s : List ℕ) (from n : ℕ) (c : List Product) (g : Standing) → ¬ (g ≡ Waived) → ¬ (g ≡ Message c) → delivery.OtherContents s n ≡ answer_against hs s from n c (Some g)
against_other hs s from n c Waived w m = absurd (w refl)
against_other hs s from n c (Message d) w m = go (same_contents d c) refl
  where
    go : (b : Bool) → same_contents d c ≡ b → delivery.OtherContents s n ≡ cond (same_contents d c) (placed_answer hs s from n) (delivery.OtherContents s n)
    go true e = absurd (m (ap Message (same_are d c e)))
    go false e = rw e refl

-- a waiver stands there
pub again_waived : TextsTellApart → (rows : DeskRows) (L : List Request) (r : Request) (a : Agreement) (n : ℕ) (c : List Product) (s t : List ℕ) → StandsFor rows L → IsFor L r a n (Message c) → s ≡ a.name → Some t ≡ stored_text s n rows → bytes_eq t (codes "waived") ≡ true → IsDelivered L r a n c (delivery.Waived s n) rows
again_waived one rows L r a n c s t stands is same e w =
    let there = is_there rows L r a n (Message c) s t stands is same e in
    let waived : there.standing ≡ Waived = one there.standing Waived there.readable tt (sym there.text ∙ (bytes_eq-Decides t (codes "waived")).0 w) in
    (there.stands, ap (λ s. delivery.Waived s n) same ∙ sym (ap (answer_against (front_of (r ∷ L) a) a.name a.first n c) (there.still ∙ ap Some waived)))

-- other contents stand there
pub again_other : (rows : DeskRows) (L : List Request) (r : Request) (a : Agreement) (n : ℕ) (c : List Product) (s t d : List ℕ) → StandsFor rows L → IsFor L r a n (Message c) → s ≡ a.name → contents_text c ≡ d → Some t ≡ stored_text s n rows → bytes_eq t (codes "waived") ≡ false → bytes_eq t d ≡ false → IsDelivered L r a n c (delivery.OtherContents s n) rows
again_other rows L r a n c s t d stands is same text e w m =
    let there = is_there rows L r a n (Message c) s t stands is same e in (
      there.stands,
      ap (λ s. delivery.OtherContents s n) same
          ∙ against_other (front_of (r ∷ L) a) a.name a.first n c there.standing (λ i. unequal t (codes "waived") w (there.text ∙ ap standing_text i)) (λ i. unequal t d m (there.text ∙ ap standing_text i ∙ text))
          ∙ sym (ap (answer_against (front_of (r ∷ L) a) a.name a.first n c) there.still),
    )

-- the same contents stand there
pub again_same : TextsTellApart → (rows : DeskRows) (L : List Request) (r : Request) (a : Agreement) (n : ℕ) (c : List Product) (s t d : List ℕ) → StandsFor rows L → IsFor L r a n (Message c) → s ≡ a.name → contents_text c ≡ d → Some t ≡ stored_text s n rows → bytes_eq t d ≡ true → StandsFor rows (r ∷ L) × (first_at (r ∷ L) a.name n ≡ Some (Message c))
again_same one rows L r a n c s t d stands is same text e m =
    let there = is_there rows L r a n (Message c) s t stands is same e in
    let it : there.standing ≡ Message c = one there.standing (Message c) there.readable is.readable (sym there.text ∙ (bytes_eq-Decides t d).0 m ∙ sym text) in
    (there.stands, there.still ∙ ap Some it)

-- a waiver comes where a waiver stands
pub waived_again : TextsTellApart → (rows : DeskRows) (L : List Request) (r : Request) (a : Agreement) (n : ℕ) (s t : List ℕ) → StandsFor rows L → IsFor L r a n Waived → s ≡ a.name → Some t ≡ stored_text s n rows → bytes_eq t (codes "waived") ≡ true → StandsFor rows (r ∷ L) × (waiver.Waived ≡ waived_by (first_at (r ∷ L) a.name n))
waived_again one rows L r a n s t stands is same e w =
    let there = is_there rows L r a n Waived s t stands is same e in
    let waived : there.standing ≡ Waived = one there.standing Waived there.readable tt (sym there.text ∙ (bytes_eq-Decides t (codes "waived")).0 w) in
    (there.stands, sym (ap waived_by (there.still ∙ ap Some waived)))

waived_against : (g : Standing) → ¬ (g ≡ Waived) → waiver.Had ≡ waived_by (Some g)
waived_against Waived w = absurd (w refl)
waived_against (Message c) w = refl

-- a waiver comes where a message stands
pub waived_too_late : (rows : DeskRows) (L : List Request) (r : Request) (a : Agreement) (n : ℕ) (s t : List ℕ) → StandsFor rows L → IsFor L r a n Waived → s ≡ a.name → Some t ≡ stored_text s n rows → bytes_eq t (codes "waived") ≡ false → StandsFor rows (r ∷ L) × (waiver.Had ≡ waived_by (first_at (r ∷ L) a.name n))
waived_too_late rows L r a n s t stands is same e w =
    let there = is_there rows L r a n Waived s t stands is same e in
    (there.stands, waived_against there.standing (λ i. unequal t (codes "waived") w (there.text ∙ ap standing_text i)) ∙ sym (ap waived_by there.still))
