use Rattle.flash_http.proofs.QueryLengths.{queries_fit}
use Rattle.flash_http.proofs.ServedRequests.{names_are_plain, heads_have_no_range}
use Rattle.flash_http.proofs.heads.served_requests.Goals as goal

pub returns-clause-names : goal.returns-clause-names
returns-clause-names c = names_are_plain

pub returns-clause-ranges : goal.returns-clause-ranges
returns-clause-ranges c = heads_have_no_range

pub returns-clause-queries : goal.returns-clause-queries
returns-clause-queries c = queries_fit
