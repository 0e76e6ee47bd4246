use Rattle.std.proofs.Common.{◌≡◌, List, Option, sym, ap, ◌∙◌, subst, arith, rules}
use Rattle.iol_hold.specs.Places.{byte_len}
use Rattle.iol_hold.specs.StoreState.{Buffer}
use Rattle.iol_hold.specs.declared.slices.Slice.{Slice}
use Rattle.iol_pipe.specs.Arrivals.{listed, MakesRead, ReadsIn}
use Rattle.iol_pipe.proofs.ReadIn.{length_read, read_added, nothing_added}
use Rattle.iol_pipe.proofs.Pipe.fill_from.Goals as goal

pub returns-in_default : goal.returns-in_default
returns-in_default g c =
    let s = c.args.store.now in
    let t = c.read_in.new.store in
    let left = g.R.Read.remaining c.args.reader.now in
    let after = g.R.Read.remaining c.read_in.new.reader in
    let old = c.args.self.now in
    let n = c.in_ok-made.arrived.taken in
    let made = subst (λ (o : Option (List Buffer)). MakesRead left after s t (listed o) c.args.pool n) c.in_default.is
    c.in_ok-made.ensures.reads.made in
    let same : c.reserve.new.self.items ≡ old = ◌∙◌ {A = List Slice} c.reserve.ensures.items c.self.view_is in
    record {
      read =
          subst (λ new. ReadsIn left after s t old new c.args.pool n) (sym same)
          (nothing_added left after s t old c.args.pool n made);
      reported = search (rules);
      room = search (rules);
      late = tt;
      err = tt;
      err_reader = tt;
    }

pub add_whole-requires-clause-filled : goal.add_whole-requires-clause-filled
add_whole-requires-clause-filled g c =
    let left = g.R.Read.remaining c.args.reader.now in
    let after = g.R.Read.remaining c.read_in.new.reader in
    (subst (λ (o : Option (List Buffer)). MakesRead left after c.args.store.now c.read_in.new.store (listed o)
    c.args.pool c.in_ok-made.arrived.taken) c.in-Some.is c.in_ok-made.ensures.reads.made).filled

pub invariant_of-self-2 : goal.invariant_of-self-2
invariant_of-self-2 g c =
    let s = c.args.store.now in
    let t = c.read_in.new.store in
    let left = g.R.Read.remaining c.args.reader.now in
    let after = g.R.Read.remaining c.read_in.new.reader in
    let n = c.in_ok-made.arrived.taken in
    let made = subst (λ (o : Option (List Buffer)). MakesRead left after s t (listed o) c.args.pool n) c.in-Some.is
    c.in_ok-made.ensures.reads.made in
    let more = length_read left after s t c.reserve.new.self.items c.add_whole.new.queue.items c.in-Some.holds
    c.args.pool n c.add_whole.ensures made in
    let same = ap byte_len c.reserve.ensures.items in
    let seen = ap byte_len c.self.view_is in
    record {
      len = omega (arith, more, same, c.self.invariant.len);
      most = omega (arith, more, same, seen, c.requires.fits, c.in_ok-made.ensures.reads.reported.most);
    }

pub returns : goal.returns
returns g c =
    let s = c.args.store.now in
    let t = c.read_in.new.store in
    let left = g.R.Read.remaining c.args.reader.now in
    let after = g.R.Read.remaining c.read_in.new.reader in
    let n = c.in_ok-made.arrived.taken in
    let new = c.add_whole.new.queue.items in
    let made = subst (λ (o : Option (List Buffer)). MakesRead left after s t (listed o) c.args.pool n) c.in-Some.is
    c.in_ok-made.ensures.reads.made in
    let same : c.reserve.new.self.items ≡ c.args.self.now =
    ◌∙◌ {A = List Slice} c.reserve.ensures.items c.self.view_is in
    record {
      read = subst (λ old. ReadsIn left after s t old new c.args.pool n) same
          (read_added left after s t c.reserve.new.self.items new c.in-Some.holds c.args.pool n c.add_whole.ensures
          made);
      reported = search (rules);
      room = search (rules);
      late = tt;
      err = tt;
      err_reader = tt;
    }
