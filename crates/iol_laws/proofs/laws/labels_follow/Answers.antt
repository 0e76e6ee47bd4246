use Rattle.iol_laws.proofs.Sources.NewAggregates.{lie_step, lie-both, lie-fresh}
use Rattle.iol_laws.proofs.Sources.Queues.{queued_step}
use Rattle.iol_laws.proofs.Sources.PipeReads.{pipe_reads, pipe_copies, pipe_whole}
use Rattle.iol_laws.proofs.laws.labels_follow.Goals as goal

pub returns : goal.returns
returns c = record {
  aggs = lie_step;
  pipes = λ pools s t e r p. queued_step pools p s t e r;
  fresh = lie-fresh;
  both = lie-both;
  reads = pipe_reads;
  copies = pipe_copies;
  whole = pipe_whole;
}
