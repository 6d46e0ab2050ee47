use Rattle.std.proofs.Common.{true, false, sym, ◌∙◌}
use Rattle.desk_catalogue.proofs.DoesLemmas.{called, did_as}
use Rattle.desk_catalogue.proofs.ReadLemmas.{identifiers_told, none_of, record_told, some_of}
use Rattle.desk_catalogue.proofs.record_rows.has_identifiers.Goals as goal

pub returns-then-is_absent : goal.returns-then-is_absent
returns-then-is_absent g c =
    let none = sym c.as_slice.ensures.value ∙ none_of c.as_slice.result.now (sym c.is_empty-is_absent.ensures ∙ c.if-is_absent.true) in
    did_as (called c.in_ok-articles.ensures)
    (λ rows after a. (a.1, λ o held. (record_told c.args.row.now rows c.in_ok-articles.articles.items true a.0 (λ yes. none) (λ no. absurd cc) o held, λ e. absurd cc)))

pub returns : goal.returns
returns g c =
    let row = c.args.row.now in
    let got = c.in_ok-articles.articles.items in
    let some = some_of c.as_slice.result.now (sym c.is_empty-is_absent.ensures ∙ c.if-is_absent.false) in
    did_as (called c.in_ok-articles.ensures)
    (λ rows after a. (
      a.1,
      λ o held. (
        record_told row rows got false a.0 (λ yes. absurd cc) (λ no none. some (c.as_slice.ensures.value ∙ none)) o held,
        identifiers_told row c.args.ids.now rows got c.in_ok-wanted.wanted.items c.same_articles.result a.0 c.in_ok-wanted.ensures
            (λ told. sym c.as_slice-2.ensures.value ∙ c.same_articles.ensures.0 told ∙ c.as_slice-3.ensures.value) o held,
      ),
    ))
