-- The laws for the proofs about a world.
use Rattle.iol_laws.specs.Aggregates.{AggregatesComeAndGo}
use Rattle.iol_laws.specs.DescriptorNumbers.{DescriptorsComeByReplies}
use Rattle.iol_laws.specs.Others.{OthersLeavePipes}
use Rattle.iol_laws.specs.RefusalsLeft.{RefusalsThatAreLeft}
use Rattle.iol_laws.specs.Sources.{LabelsFollow}
use Rattle.flash_cgi.specs.Beside.{OthersReceive}
use Rattle.flash_http.specs.Request.{ClosesWithoutChunks, QueriesFit}
use Rattle.flash_laws.specs.Workers.WorkerSet.{WorkerSet}
use Rattle.flash_laws.specs.SiteContents.Expected.{ExpectedMayCome}
use Rattle.flash_laws.specs.Workers.DeliversText.{TextsAreDelivered}
use Rattle.flash_laws.specs.Run.Holdings.{RunsKeepNothing}
use Rattle.flash_laws.specs.Run.OfferedBytes.{RunsOfferTheResponse}
use Rattle.flash_laws.specs.Workers.{WorkersRun}
use Rattle.flash_laws.specs.World.{JobQueuesAreApart}
use Rattle.flash_laws.proofs.TheLaws.{TheLaws}

pub record AllLaws (worker_set : WorkerSet) : Type 0 where
  pub the : TheLaws
  pub aggs : AggregatesComeAndGo
  pub pipes : OthersLeavePipes
  pub labels : LabelsFollow
  pub numbers : DescriptorsComeByReplies
  pub left : RefusalsThatAreLeft
  pub receive : OthersReceive
  pub queries : QueriesFit
  pub closes : ClosesWithoutChunks
  pub expected : ExpectedMayCome
  pub runs : RunsOfferTheResponse
  pub run_keeps : RunsKeepNothing
  pub workers : WorkersRun worker_set.turns worker_set.quiescent worker_set.pools worker_set.Free worker_set.Expected
  pub texts : TextsAreDelivered worker_set.turns worker_set.pools worker_set.Free worker_set.Expected
  pub apart : JobQueuesAreApart worker_set
