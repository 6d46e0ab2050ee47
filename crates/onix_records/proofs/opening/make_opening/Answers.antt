use Rattle.std.proofs.Common.{◌≡◌, ◌∙◌, ℕ, List, ap, refl, sym, arith, Option, Some, None, Result, Ok, Err}
use Rattle.std.specs.Result.{IsErrAnd}
use Rattle.std.proofs.lemmas.Grind.{common_steps}
use Rattle.onix_terms.specs.Code.{code2_of, currency_of}
use Rattle.onix_terms.specs.Digits.{digits_of}
use Rattle.onix_terms.specs.Number.{number_of}
use Rattle.onix_terms.specs.Options.{◌>>=◌}
use Rattle.onix_records.specs.Fields.{optional, optional_party, party_of, unless_empty}
use Rattle.onix_records.specs.Gives.{Gives}
use Rattle.onix_records.specs.Opening.{form_of, opening_from}
use Rattle.onix_records.specs.declared.row.RowFault.{RowFault}
use Rattle.onix_records.specs.declared.row.RowFault.TheVariants as fault
use Rattle.onix_records.proofs.opening.make_opening.Goals as goal

no-type : (v st sv at av n r sent t c : List ℕ) → optional code2_of t ≡ None → opening_from v st sv at av n r sent t c ≡ None
unfolding opening_from
no-type v st sv at av n r sent t c is = rw is (grind (arith, common_steps))

-- seven values in a row, and what is made of them
abbrev of_seven : {A B C D E F G H : Type 0} → (A → B → C → D → E → F → G → H)
    → Option A → Option B → Option C → Option D → Option E → Option F → Option G → Option H
of_seven make a b c d e f g =
    a >>= (λ a. b >>= (λ b. c >>= (λ c. d >>= (λ d. e >>= (λ e. f >>= (λ f. g >>= (λ g. Some (make a b c d e f g))))))))

no-last : {A B C D E F G H : Type 0} (make : A → B → C → D → E → F → G → H)
    (a : Option A) (b : Option B) (c : Option C) (d : Option D) (e : Option E) (f : Option F) (g : Option G) → g ≡ None → of_seven make a b c d e f g ≡ None
no-last make a b c d e f g is = grind (arith, common_steps, is)

no-currency : (v st sv at av n r sent t c : List ℕ) → optional currency_of c ≡ None → opening_from v st sv at av n r sent t c ≡ None
unfolding opening_from
no-currency v st sv at av n r sent t c is =
    no-last (λ form sender addressee number repeat kind currency. record { form = form; header = record { sender = sender; addressee = addressee; number = number; repeat = repeat; sent = sent; default_type = kind; default_currency = currency } })
    (form_of v) (party_of st sv) (optional_party at av) (optional number_of n) (optional digits_of r) (optional code2_of t) (optional currency_of c) is

-- a fault at a part is one of the whole
fails-as : {A B : Type 0} (result : Result B RowFault) (e : RowFault) (part : Option A) (whole : Option B) → IsErrAnd result (λ r. r ≡ e) → Gives {A = A} (Err e) part
    → (part ≡ None → whole ≡ None) → Gives result whole
fails-as (Ok x) e part whole is gives none = absurd is
fails-as (Err r) fault.Wrong part whole is gives none = rw is (none gives)
fails-as (Err r) fault.Memory part whole is gives none = rw is tt

pub returns-in_err-default_type : goal.returns-in_err-default_type
returns-in_err-default_type c =
    let t = c.in_err-default_type.ensures in
    fails-as _ _ _ _ c.from_residual-in_err-default_type.ensures.1 t.2
    (λ none. no-type _ _ _ _ _ _ _ _ _ _ (ap (unless_empty c.args.price_type.now) (sym t.1) ∙ none))

pub returns-in_err-default_currency : goal.returns-in_err-default_currency
returns-in_err-default_currency c =
    let t = c.in_err-default_currency.ensures in
    fails-as _ _ _ _ c.from_residual-in_err-default_currency.ensures.1 t.2
    (λ none. no-currency _ _ _ _ _ _ _ _ _ _ (ap (unless_empty c.args.currency.now) (sym t.1) ∙ none))

pub returns : goal.returns
unfolding opening_from
returns c =
    let number = c.in_ok-number.ensures in
    let code = c.in_ok-default_type.ensures in
    let currency = c.in_ok-default_currency.ensures in
    rw (c.in_ok-form.ensures, c.in_ok-sender.ensures, c.in_ok-addressee.ensures, ← number.1, number.2, c.in_ok-repeat.ensures, ← code.1, code.2, ← currency.1, currency.2, c.in_ok-sent.ensures.text) refl
