use Rattle.iol_laws.proofs.DescriptorNumbers.ByReplies.{shut_step}
use Rattle.iol_laws.proofs.DescriptorNumbers.Low.{low_new, low_number, low_reached, low_step}
use Rattle.iol_laws.proofs.laws.descriptors_come_by_replies.Goals as goal

pub returns : goal.returns
returns c = record { none = shut_step; new = low_new; step = low_step; reached = low_reached; given = low_number }
