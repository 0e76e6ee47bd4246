use Rattle.std.proofs.Common.{◌≡◌, ◌∙◌, length, rules, Some, None, ap, sym, arith}
use Rattle.iol_pool.specs.Pools.{pool_in}
use Rattle.iol_pipe.specs.Queue.{fitting}
use Rattle.iol_sock.specs.Refusals.{arrive_refusals}
use Rattle.iol_core.specs.Meaning.{first}
use Rattle.iol_kernel.specs.Kernel.{state_of}
use Rattle.iol_kernel.proofs.Connections.ArrivalAfterRoom.{arrive_first, arrive_fits, arrive_in, arrive_missing}
use Rattle.iol_kernel.proofs.Connections.OneConnection.{conn_open}
use Rattle.iol_kernel.proofs.kernel.Kernel.room_to_arrive.Goals as goal

pub returns-in_default : goal.returns-in_default
returns-in_default c = record {
  may = tt;
  refused = record {
    refused = arrive_missing (state_of c.args.self.now) c.args.conn c.args.bytes.now (search (rules));
    roomy = λ p e. cc e;
  };
}

pub returns-in_err-may_arrive : goal.returns-in_err-may_arrive
returns-in_err-may_arrive c =
    let x = c.in-Some.found.now in
    let y = c.in_err-may_arrive.field-0.0 in
    let first' : first (arrive_refusals x (length c.args.bytes.now)) ≡ Some y = search (rules) in
    let refused = arrive_first (state_of c.args.self.now) c.args.conn x c.args.bytes.now (sym c.in-Some.ensures)
    (Some y) first' in
    search (rules, refused)

pub returns : goal.returns
returns c =
    let h = state_of c.args.self.now in
    let x = c.in-Some.found.now in
    let there = sym c.in-Some.ensures in
    let is : fitting x.incoming (length c.args.bytes.now) ≡ c.min.result =
    omega (arith, c.min.ensures, c.unread.ensures.len, c.unread.ensures.most) in
    record {
      may = record {
        sound = c.requires;
        passed = arrive_first h c.args.conn x c.args.bytes.now there None c.in_ok-may_arrive.ensures.passed;
        lands = arrive_in h c.args.conn x c.args.bytes.now there c.pool.result c.pool.ensures;
        fits = arrive_fits h c.args.conn x c.args.bytes.now there c.min.result is;
        opened = ap (λ p. (pool_in h.store.pools p).closed) c.pool.ensures ∙ conn_open h c.args.conn x c.requires there;
      };
      refused = tt;
    }
