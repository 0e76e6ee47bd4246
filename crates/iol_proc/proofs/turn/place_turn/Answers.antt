use Rattle.std.proofs.Common.{refl}
use Rattle.std.proofs.lemmas.Option.{slice_get_read}
use Rattle.iol_proc.proofs.Runs.{domains_of-slice_set}
use Rattle.iol_proc.proofs.turn.place_turn.Goals as goal

-- the process keeps its domain
pub returns-clause-domains : goal.returns-clause-domains
returns-clause-domains g c =
    domains_of-slice_set c.args.process_slots.now.items c.args.place c.index_mut-process_slot.result.now
    c.process_slot_turn-outcome.new.process_slot c.index_mut-process_slot.ensures.value
    c.process_slot_turn-outcome.ensures.domain

-- the process slot at the place has its turn
pub returns-clause-turn : goal.returns-clause-turn
returns-clause-turn g c = record {
  process_slot = c.index_mut-process_slot.result.now;
  next = c.process_slot_turn-outcome.new.process_slot;
  sits = slice_get_read _ _ _ _ refl c.requires c.index_mut-process_slot.ensures.value;
  turn = c.process_slot_turn-outcome.ensures.turn;
  others_stay = refl;
  notes = cc;
}
