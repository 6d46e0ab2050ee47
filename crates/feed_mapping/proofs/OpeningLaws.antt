-- What a record Message with another number says, and how records are read behind it.
use Rattle.std.proofs.Common.{◌≡◌, ℕ, List, [], ◌∷◌, Bool, true, false, Option, Some, None, refl, sym, ap, ◌∙◌}
use Rattle.std.specs.Prelude.{◌&&◌, if◌then◌else◌, option_map, codes}
use Rattle.std.specs.List.{list_all}
use Rattle.std.specs.Str.{is_utf8}
use Rattle.std.proofs.lemmas.Option.{same_Some}
use Rattle.feed_outline.specs.Nodes.{Nodes}
use Rattle.onix_records.specs.Fields.{is_clean, optional, optional_party, party_of}
use Rattle.onix_records.specs.Opening.{form_of, opening_fields, opening_from, opening_of}
use Rattle.onix_records.specs.Price.{price_from, price_of}
use Rattle.onix_records.specs.Row.{row_of}
use Rattle.onix_records.specs.declared.row.Form.{Form}
use Rattle.onix_records.specs.declared.row.Form.TheVariants as form
use Rattle.onix_records.proofs.FrontRows.{bind-some}
use Rattle.onix_records.specs.declared.row.Opening.{Opening}
use Rattle.onix_records.proofs.CleanTexts.{digits-clean}
use Rattle.onix_terms.specs.Code.{code2_of, currency_of}
use Rattle.onix_terms.specs.Digits.{digits_of}
use Rattle.onix_terms.specs.Number.{number_of}
use Rattle.onix_terms.specs.Options.{◌>>=◌}
use Rattle.onix_terms.specs.declared.party.Party.{Party}
use Rattle.feed_mapping.specs.Elements.{text_or_empty}
use Rattle.feed_mapping.specs.Header.{message_fields, parsed_opening, repeat_in}
use Rattle.feed_mapping.specs.Parties.{Pair}
use Rattle.feed_mapping.specs.Rows.{numbered}
use Rattle.feed_mapping.proofs.PriceRows.{cond-then}

-- ---- what a record is read as behind one that differs by its number alone

price-same : (n : ℕ) (o : Opening) (fields : List (List ℕ)) → price_of (numbered n o) fields ≡ price_of o fields
unfolding price_of price_from
price-same n o [] = refl
price-same n o (a ∷ []) = refl
price-same n o (a ∷ b ∷ []) = refl
price-same n o (a ∷ b ∷ c ∷ []) = refl
price-same n o (a ∷ b ∷ c ∷ d ∷ []) = refl
price-same n o (a ∷ b ∷ c ∷ d ∷ e ∷ []) = refl
price-same n o (a ∷ b ∷ c ∷ d ∷ e ∷ f ∷ []) = refl
price-same n o (a ∷ b ∷ c ∷ d ∷ e ∷ f ∷ g ∷ []) = refl
price-same n o (a ∷ b ∷ c ∷ d ∷ e ∷ f ∷ g ∷ h ∷ more) = refl

pub row-same : (n : ℕ) (o : Opening) (fields : List (List ℕ)) → row_of (numbered n o) fields ≡ row_of o fields
unfolding row_of
row-same n o [] = refl
row-same n o (name ∷ fields) = rw (price-same n o fields) refl

-- ---- the record of a part

-- what the terms of a record Message say together
abbrev made : Option Form → Option Party → Option (Option Party) → Option (Option ℕ) → Option (Option ℕ) → List ℕ → Option (Option (List ℕ)) → Option (Option (List ℕ)) → Option Opening
made form sender addressee number repeat sent price_type currency = do
  f ← form
  s ← sender
  a ← addressee
  n ← number
  r ← repeat
  t ← price_type
  c ← currency
  Some (record { form = f; header = record { sender = s; addressee = a; number = n; repeat = r; sent = sent; default_type = t; default_currency = c } })

made-numbered : (k : ℕ) (o : Opening) (form : Option Form) (sender : Option Party) (addressee : Option (Option Party)) (n m : Option (Option ℕ)) (repeat : Option (Option ℕ)) (sent : List ℕ) (price_type currency : Option (Option (List ℕ)))
    → m ≡ Some (Some k) → made form sender addressee n repeat sent price_type currency ≡ Some o → made form sender addressee m repeat sent price_type currency ≡ Some (numbered k o)
made-numbered k o None s a n m r sent t c is e = cc e
made-numbered k o (Some f) None a n m r sent t c is e = cc e
made-numbered k o (Some f) (Some s) None n m r sent t c is e = cc e
made-numbered k o (Some f) (Some s) (Some a) None m r sent t c is e = cc e
made-numbered k o (Some f) (Some s) (Some a) (Some n) m None sent t c is e = cc e
made-numbered k o (Some f) (Some s) (Some a) (Some n) m (Some r) sent None c is e = cc e
made-numbered k o (Some f) (Some s) (Some a) (Some n) m (Some r) sent (Some t) None is e = cc e
made-numbered k o (Some f) (Some s) (Some a) (Some n) m (Some r) sent (Some t) (Some c) is e =
    ap (λ (x : Option (Option ℕ)). made (Some f) (Some s) (Some a) x (Some r) sent (Some t) (Some c)) is ∙ ap (λ (x : Opening). Some (numbered k x)) (same_Some _ o e)

optional-number : (text : List ℕ) (k : ℕ) → number_of text ≡ Some k → optional number_of text ≡ Some (Some k)
optional-number [] k e = cc e
optional-number (b ∷ bs) k e = ap (option_map Some) e

fields-numbered : (v st sv at av n m r sent t c : List ℕ) (k : ℕ) (o : Opening) → number_of m ≡ Some k
    → opening_fields (v ∷ st ∷ sv ∷ at ∷ av ∷ n ∷ r ∷ sent ∷ t ∷ c ∷ []) ≡ Some o → opening_fields (v ∷ st ∷ sv ∷ at ∷ av ∷ m ∷ r ∷ sent ∷ t ∷ c ∷ []) ≡ Some (numbered k o)
unfolding opening_fields opening_from
fields-numbered v st sv at av n m r sent t c k o is e =
    made-numbered k o (form_of v) (party_of st sv) (optional_party at av) (optional number_of n) (optional number_of m) (optional digits_of r) sent (optional code2_of t) (optional currency_of c) (optional-number m k is) e

clean-numbered : (a b c d x y r : Bool) → y ≡ true → (a && (b && (c && (d && (x && r))))) ≡ true → (a && (b && (c && (d && (y && r))))) ≡ true
clean-numbered false b c d x y r is e = cc e
clean-numbered true false c d x y r is e = cc e
clean-numbered true true false d x y r is e = cc e
clean-numbered true true true false x y r is e = cc e
clean-numbered true true true true false y r is e = cc e
clean-numbered true true true true true y r is e = ap (λ k. k && r) is ∙ e

-- a record Message with another number says the same but for its number
pub opening-numbered : (s a : Pair) (nodes : Nodes) (n m : List ℕ) (k : ℕ) (o : Opening) → digits_of m ≡ Some k → number_of m ≡ Some k → parsed_opening (message_fields s a n nodes) ≡ Some o
    → opening_of (codes "Message" ∷ message_fields s a m nodes) ≡ Some (numbered k o)
unfolding opening_of
opening-numbered s a nodes n m k o digits is e =
    let repeat = repeat_in nodes in
    let sent = text_or_empty (codes "SentDateTime") nodes in
    let price_type = text_or_empty (codes "DefaultPriceType") nodes in
    let currency = text_or_empty (codes "DefaultCurrencyCode") nodes in
    let read = (cond-then (list_all is_utf8 (message_fields s a n nodes)) (opening_of (codes "Message" ∷ message_fields s a n nodes)) o e).1 in
    let (all, says) = cond-then (list_all is_clean (message_fields s a n nodes)) (opening_fields (message_fields s a n nodes)) o read in
    let clean : list_all is_clean (message_fields s a m nodes) ≡ true =
    clean-numbered (is_clean s.id_type) (is_clean s.id_value) (is_clean a.id_type) (is_clean a.id_value) (is_clean n) (is_clean m) (list_all is_clean (repeat ∷ sent ∷ price_type ∷ currency ∷ [])) (digits-clean m k digits) all in
    ap (λ (t : Bool). if t then opening_fields (message_fields s a m nodes) else None) clean
    ∙ fields-numbered (codes "2") s.id_type s.id_value a.id_type a.id_value n m repeat sent price_type currency k o is says

-- ---- the form

-- fields that say form 2 are those of a message of form 2
fields-two : (fields : List (List ℕ)) (o : Opening) → opening_fields (codes "2" ∷ fields) ≡ Some o → o.form ≡ form.Two
unfolding opening_fields opening_from
fields-two (a ∷ b ∷ c ∷ d ∷ n ∷ r ∷ s ∷ t ∷ u ∷ []) o says =
    let (s', _, e1) = bind-some (party_of a b) _ o says in
    let (a', _, e2) = bind-some (optional_party c d) _ o e1 in
    let (n', _, e3) = bind-some (optional number_of n) _ o e2 in
    let (r', _, e4) = bind-some (optional digits_of r) _ o e3 in
    let (t', _, e5) = bind-some (optional code2_of t) _ o e4 in
    let (c', _, e6) = bind-some (optional currency_of u) _ o e5 in
    sym (ap (λ (x : Opening). x.form) (same_Some _ o e6))
fields-two [] o says = cc
fields-two (a ∷ []) o says = cc
fields-two (a ∷ b ∷ []) o says = cc
fields-two (a ∷ b ∷ c ∷ []) o says = cc
fields-two (a ∷ b ∷ c ∷ d ∷ []) o says = cc
fields-two (a ∷ b ∷ c ∷ d ∷ n ∷ []) o says = cc
fields-two (a ∷ b ∷ c ∷ d ∷ n ∷ r ∷ []) o says = cc
fields-two (a ∷ b ∷ c ∷ d ∷ n ∷ r ∷ s ∷ []) o says = cc
fields-two (a ∷ b ∷ c ∷ d ∷ n ∷ r ∷ s ∷ t ∷ []) o says = cc
fields-two (a ∷ b ∷ c ∷ d ∷ n ∷ r ∷ s ∷ t ∷ u ∷ v ∷ more) o says = cc

-- a record that says form 2 begins a message of form 2
pub form-two : (fields : List (List ℕ)) (o : Opening) → opening_of (codes "Message" ∷ codes "2" ∷ fields) ≡ Some o → o.form ≡ form.Two
unfolding opening_of
form-two fields o e =
    fields-two fields o (cond-then (list_all is_clean (codes "Message" ∷ codes "2" ∷ fields)) (opening_fields (codes "2" ∷ fields)) o e).1
