use Rattle.iol_back.proofs.Names.{distinct_of_rising}
use Rattle.iol_back.proofs.folder.FolderBacking.count.Goals as goal

pub returns-clause-distinct : goal.returns-clause-distinct
returns-clause-distinct g c = rw (← c.self.view_is) (distinct_of_rising _ c.count.ensures.names.rising)
