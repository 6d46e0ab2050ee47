use Rattle.onix_terms.proofs.TerritoryTexts.{territory-back}
use Rattle.onix_terms.proofs.laws.territory_reads_back.Goals as goal

pub returns : goal.returns
returns c = record {
  read = λ i r e t is. (territory-back i r e t is).reads;
  short = λ i r e t is. let b = territory-back i r e t is in (b.included_text.short, b.excluded_text.short);
  letters = λ i r e t is. let b = territory-back i r e t is in (b.included_text.plain, b.excluded_text.plain);
}
