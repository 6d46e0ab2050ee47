use Rattle.program_run.proofs.listing.list_desk.Goals as goal

pub returns-in-Agreements-clause-end : goal.returns-in-Agreements-clause-end
returns-in-Agreements-clause-end g c = rw c.in-Agreements.is (c.write_listing.ensures.end, c.write_listing.ensures.status)

pub returns-in-Gaps-clause-end : goal.returns-in-Gaps-clause-end
returns-in-Gaps-clause-end g c = rw c.in-Gaps.is (c.write_listing-in-Gaps.ensures.end, c.write_listing-in-Gaps.ensures.status)

pub returns-in-Export-clause-end : goal.returns-in-Export-clause-end
returns-in-Export-clause-end g c = rw c.in-Export.is (c.write_listing-in-Export.ensures.end, c.write_listing-in-Export.ensures.status)
