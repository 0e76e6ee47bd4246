use Rattle.std.proofs.Common.{[], ◌≡◌, ◌∙◌, ◌==◌, Some, None, rules, ap, sym, false, arith}
use Rattle.std.proofs.lemmas.Bool.Decides.{nat_tests}
use Rattle.iol_core.specs.Meaning.{first}
use Rattle.iol_core.specs.declared.refusals.Refusal.{Refusal}
use Rattle.iol_pool.specs.Pools.{pool_in}
use Rattle.iol_sock.specs.Refusals.{arrive_refusals}
use Rattle.iol_kernel.specs.Streams.{FailsToRead}
use Rattle.iol_kernel.specs.Kernel.{state_of}
use Rattle.iol_kernel.specs.Readings.{bytes_over}
use Rattle.iol_kernel.proofs.Connections.ArrivalAfterRoom.{arrive_in, held_tests}
use Rattle.iol_kernel.proofs.Connections.OneConnection.{conn_open, conn_there}
use Rattle.iol_kernel.proofs.Connections.StreamsAfterRoom.{read_missing, read_none_asked, read_some_asked}
use Rattle.iol_kernel.proofs.kernel.Kernel.may_arrive_from.Goals as goal

pub returns-in_default-clause-refused : goal.returns-in_default-clause-refused
returns-in_default-clause-refused c =
    record {
      refused = read_missing (state_of c.args.self.now) c.args.conn c.args.max (search (rules));
      roomy =
          λ p is. absurd (cc is);
      memory = λ is. absurd (cc is);
    }

pub returns-then-max-eq0-clause-refused : goal.returns-then-max-eq0-clause-refused
returns-then-max-eq0-clause-refused c =
    record {
      refused =
          read_none_asked (state_of c.args.self.now) c.args.conn c.args.max c.in-Some.found.now (sym c.in-Some.ensures)
          c.if-max-eq0.true;
      roomy = λ p is. absurd (cc is);
      memory = λ is. absurd (cc is);
    }

pub returns-in_err-may_arrive-clause-refused : goal.returns-in_err-may_arrive-clause-refused
returns-in_err-may_arrive-clause-refused c =
    let is : first (arrive_refusals c.in-Some.found.now 1) ≡ Some c.in_err-may_arrive.field-0.0 = search (rules) in
    let some : (c.args.max == 0) ≡ false = let ne = c.if-max-eq0.false in grind (arith, nat_tests, ne) in
    let refused : FailsToRead c.args.conn c.args.max c.in_err-may_arrive.field-0.0 (state_of c.args.self.now) =
    record {
      roomy = search (rules);
      memory =
          λ e. absurd (held_tests c.in-Some.found.now 1 (is ∙ ap (λ (y : Refusal). Some y) e));
      refused =
          read_some_asked (state_of c.args.self.now) c.args.conn c.args.max c.in-Some.found.now (sym c.in-Some.ensures)
          (Some c.in_err-may_arrive.field-0.0) some is;
    } in
    search (rules, refused)

pub returns-clause-may : goal.returns-clause-may
returns-clause-may c =
    let h = state_of c.args.self.now in
    let f = bytes_over [] h.store in
    let x = c.in-Some.found.now in
    let there = sym c.in-Some.ensures in
    let some : (c.args.max == 0) ≡ false = let ne = c.if-max-eq0.false in grind (arith, nat_tests, ne) in
    record {
      passed = read_some_asked h c.args.conn c.args.max x there None some c.in_ok-may_arrive.ensures.passed;
      there = conn_there f h c.args.conn x c.in-Some.ensures;
      lands = arrive_in h c.args.conn x [] there c.pool.result c.pool.ensures f;
      opened = ap (λ p. (pool_in h.store.pools p).closed) c.pool.ensures ∙ conn_open h c.args.conn x c.requires there;
    }
