use Rattle.std.proofs.Common.{◌≡◌, ap, refl, rules, subst, sym, true, false}
use Rattle.iol_sock.specs.Table.{ConnTable, conn_in}
use Rattle.iol_sock.proofs.AtPlace.{changed_to}
use Rattle.iol_kernel.specs.Kernel.{state_of}
use Rattle.iol_kernel.specs.KernelState.{KernelState, IsSound}
use Rattle.iol_kernel.proofs.Connections.Streams.{BroughtIn, brought_in, read_passed, read_refused, read_room}
use Rattle.iol_kernel.proofs.Connections.OneConnection.{conn_is, conn_open, found_conn}
use Rattle.iol_kernel.proofs.State.Stay.{stays_equal}
use Rattle.iol_kernel.proofs.kernel.Kernel.read_in.Given.{Over}
use Rattle.iol_kernel.proofs.kernel.Kernel.read_in.Goals as goal
use Rattle.iol_kernel.proofs.kernel.Kernel.read_in.Goals.{In_ok-arrive_from}

pub arrive_from-requires-clause-there : goal.arrive_from-requires-clause-there
arrive_from-requires-clause-there g c = conn_is (state_of c.args.self.now) c.args.conn c.requires.there

pub arrive_from-requires-clause-pool : goal.arrive_from-requires-clause-pool
arrive_from-requires-clause-pool g c =
    let h = state_of c.args.self.now in
    conn_open h c.args.conn (conn_in h.conns c.args.conn) c.requires.sound (found_conn h c.args.conn c.requires.there)

-- the result of the read
brought : (g : Over) (c : In_ok-arrive_from g)
    → BroughtIn (state_of c.args.self.now) (record (state_of c.args.self.now) {
      store = c.arrive_from.new.store;
      conns =
          c.arrive_from.new.self.conns;
      next_conn = c.arrive_from.new.self.next;
    }) c.args.conn c.args.max
    c.in_ok-arrive_from.field-0.taken (g.R.Read.remaining c.args.reader.now)
    (g.R.Read.remaining c.arrive_from.new.reader)
brought g c =
    let h = state_of c.args.self.now in
    let w = c.arrive_from.new in
    let e = c.in_ok-arrive_from.ensures in
    brought_in h (record h { store = w.store; conns = w.self.conns; next_conn = w.self.next }) c.args.conn c.args.max
    c.in_ok-arrive_from.field-0.taken (g.R.Read.remaining c.args.reader.now) (g.R.Read.remaining w.reader)
    c.requires.sound (conn_is h c.args.conn c.requires.there) e.conn.passed e.conn.reported.most e.conn.read
    (ap (λ (t : ConnTable). record h { store = w.store; conns = t.conns; next_conn = t.next })
    (changed_to {z =
    record (conn_in h.conns c.args.conn) { incoming = (conn_in w.self.conns c.args.conn).incoming }} e.others
    e.conn.others))

pub returns : goal.returns
returns g c =
    let h = state_of c.args.self.now in
    let there = conn_is h c.args.conn c.requires.there in
    let e = c.in_ok-arrive_from.ensures.conn in
    let reported = e.reported in
    let got = brought g (goal.at.returns g c).In_ok-arrive_from in
    record {
      takes = record {
        refuses = record {
          passed = read_passed h c.args.conn c.args.max there e.passed;
          refused = tt;
          room =
              read_room h c.args.conn c.args.max there true e.room.room;
          no_room = λ p is. absurd (cc is);
        };
        read = got.takes;
        made = got.made;
        slices = got.slices;
        reported = record {
          most = got.most;
          some = reported.some;
          either = reported.either;
          ended = reported.ended;
          failed = reported.failed;
        };
        none = got.none;
        cache = refl;
        err = tt;
        sound = got.sound;
        stays = e.read.added.moves.stays;
      };
      err_reader = tt;
    }

pub returns-in_err-arrive_from : goal.returns-in_err-arrive_from
returns-in_err-arrive_from g c =
    let h = state_of c.args.self.now in
    let w = c.arrive_from.new in
    let k : KernelState = record h { store = w.store; conns = w.self.conns; next_conn = w.self.next } in
    let there = conn_is h c.args.conn c.requires.there in
    let e = c.in_err-arrive_from.ensures in
    let reported = e.conn.refused in
    let table = e.others.same e.conn.err.0 in
    let same : k ≡ h = λ i. record h { store = e.conn.err.1 i; conns = (table i).conns; next_conn = (table i).next } in
    let refused =
    read_refused h c.args.conn c.args.max there c.in_err-arrive_from.field-0.0 (search (rules, reported)) in
    record {
      takes = record {
        refuses = record {
          passed = search (rules);
          refused = search (rules, refused);
          room = search (rules);
          no_room =
              λ p is. read_room h c.args.conn c.args.max there false (e.conn.room.no_room p (search (rules, is)));
        };
        read = search (rules);
        made = search (rules);
        slices = search (rules);
        reported = search (rules);
        none = search (rules);
        cache = refl;
        err = search (rules, same);
        sound = subst IsSound (sym same) c.requires.sound;
        stays = stays_equal h.store w.store e.conn.err.1;
      };
      err_reader = search (rules);
    }
