use Rattle.std.proofs.Common.{◌≡◌, ℕ, List, rules, subst}
use Rattle.std.specs.Prelude.{Result, Err}
use Rattle.iol_core.specs.State.{conn_at}
use Rattle.iol_core.specs.Calls.Outside as outside
use Rattle.iol_core.specs.declared.refusals.Refusal.{Refusal}
use Rattle.iol_kernel.specs.Calls.{with_incoming}
use Rattle.iol_kernel.specs.Kernel.{state_of, machine}
use Rattle.iol_kernel.specs.NewBytes.{TakesIncoming}
use Rattle.iol_kernel.proofs.Connections.ArrivalAfterRoom.{arrive_tests}
use Rattle.iol_kernel.proofs.State.AfterRoom.{places_refused}
use Rattle.iol_kernel.proofs.kernel.Kernel.arrive.Goals as goal

pub returns-in_err-pool : goal.returns-in_err-pool
returns-in_err-pool c =
    let h = state_of c.args.self.now in
    let bytes = c.args.bytes.now in
    let conn = c.args.conn in
    let is : ◌≡◌ {A = Result ℕ Refusal} (Err c.in_err-pool.field-0.0) c.from_residual.result = search (rules) in
    subst (λ (r : Result ℕ Refusal). TakesIncoming conn bytes h r h) is (record {
      places =
          places_refused (λ s. outside.arrive s conn bytes) (with_incoming conn)
          (conn_at (machine c.args.self.now) conn).pool (outside.arrive (machine c.args.self.now) conn bytes).answer h
          c.in_err-pool.field-0.0 c.requires (search (rules)) (search (rules)) (arrive_tests conn bytes);
      slices = tt;
    })

pub returns : goal.returns
returns c =
    subst (λ (bs : List ℕ). TakesIncoming c.args.conn bs (state_of c.args.self.now) c.take_in.result
    (state_of c.take_in.new.self)) c.as_slice-2.ensures c.take_in.ensures
