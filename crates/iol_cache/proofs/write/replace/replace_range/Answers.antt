use Rattle.iol_cache.proofs.RangeWrites.InPlace.{left_may, new_may, replaces, right_may}
use Rattle.iol_cache.proofs.write.replace.replace_range.Goals as goal

pub put_edge-requires : goal.put_edge-requires
put_edge-requires c = left_may c.requires c.clear_range.ensures

pub put_edge-requires-2 : goal.put_edge-requires-2
put_edge-requires-2 c = right_may c.requires c.clear_range.ensures c.put_edge.ensures

pub put_edge-requires-3 : goal.put_edge-requires-3
put_edge-requires-3 c = new_may c.requires c.clear_range.ensures c.put_edge.ensures c.put_edge-2.ensures

pub returns : goal.returns
returns c = replaces c.requires c.clear_range.ensures c.put_edge.ensures c.put_edge-2.ensures c.put_edge-3.ensures
