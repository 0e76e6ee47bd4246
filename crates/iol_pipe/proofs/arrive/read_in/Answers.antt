use Rattle.std.proofs.Common.{sym, ap, ◌∙◌, arith, length, rules}
use Rattle.iol_pipe.proofs.ReadIn.{room_for_one, kept_consumes, consumes_none, home_as, read_made, none_made}
use Rattle.iol_pipe.proofs.ReadIn.{reads_once}
use Rattle.iol_pipe.proofs.arrive.read_in.Goals as goal

pub returns-in_err-filling-clause-reads : goal.returns-in_err-filling-clause-reads
returns-in_err-filling-clause-reads g c = record {
  made = search (rules);
  reported = search (rules);
  room = record {
    room = search (rules);
    no_room = λ p is. sym (room_for_one c.args.store.now c.args.pool c.args.n c.requires.some c.requires.page)
        ∙ c.in_err-filling.ensures.begins.no_room p (search (rules, is));
  };
  late = search (rules);
  err = search (rules);
}

pub returns-then-taken-eq0-clause-reads : goal.returns-then-taken-eq0-clause-reads
returns-then-taken-eq0-clause-reads g c =
    let begun = c.in_ok-filling.ensures.begins in
    let f = c.in_ok-filling.filling in
    let memory = c.read_some.new.memory in
    let lent = c.part_mut.ensures.shows in
    let there = c.abandon.ensures in
    let left = g.R.Read.remaining c.args.reader.now in
    let after = g.R.Read.remaining c.read_some.new.reader in
    let size = c.read_some.auto.memory in
    reads_once c.abandon.new.self.0 _ c.requires begun.room
    (none_made c.args.store.now f.store.now c.abandon.new.self.0 f.reserved.reservation.parts.items c.args.pool c.args.n
    memory
    begun.fills begun.pages begun.others begun.filling.pages.apart begun.some c.requires.some c.requires.page
    (size ∙ lent.len) (omega (arith, size, lent.some)) lent.keeps
    left after (consumes_none left after c.in-Ok.len memory c.if-taken-eq0.true c.in-Ok.ensures.given) there.publishes
    there.tidy there.unraised there.others there.returned)
    (search rules) (search rules)

pub returns-else-taken-eq0-clause-reads : goal.returns-else-taken-eq0-clause-reads
returns-else-taken-eq0-clause-reads g c =
    let begun = c.in_ok-filling.ensures.begins in
    let f = c.in_ok-filling.filling in
    let memory = c.read_some.new.memory in
    let lent = c.part_mut.ensures.shows in
    let there = c.publish-holds.ensures in
    let size = c.read_some.auto.memory in
    reads_once c.publish-holds.new.self.0 _ c.requires begun.room
    (read_made c.args.store.now f.store.now c.publish-holds.new.self.0 f.reserved.reservation.parts.items c.args.pool
    c.args.n memory
    begun.fills begun.pages begun.others begun.filling.pages.apart begun.some c.requires.some c.requires.page
    (size ∙ lent.len) (omega (arith, size, lent.some)) lent.keeps
    (g.R.Read.remaining c.args.reader.now) (g.R.Read.remaining c.read_some.new.reader) c.publish-holds.result
    c.in-Ok.len (omega (arith, c.if-taken-eq0.false)) c.in-Ok.ensures.most c.in-Ok.ensures.inside
    (sym (ap length lent.value) ∙ lent.len)
    c.in-Ok.ensures.given there.publishes there.tidy there.value there.filled
    (home_as c.publish-holds.result f.reserved.pool c.args.pool begun.pool there.pool) there.few there.made_on
    there.others)
    (search rules) (search rules)

pub returns-in-Err-clause-reads : goal.returns-in-Err-clause-reads
returns-in-Err-clause-reads g c =
    let begun = c.in_ok-filling.ensures.begins in
    let f = c.in_ok-filling.filling in
    let memory = c.read_some.new.memory in
    let lent = c.part_mut.ensures.shows in
    let there = c.abandon-in-Err.ensures in
    let left = g.R.Read.remaining c.args.reader.now in
    let after = g.R.Read.remaining c.read_some.new.reader in
    let size = c.read_some.auto.memory in
    reads_once c.abandon-in-Err.new.self.0 _ c.requires begun.room
    (none_made c.args.store.now f.store.now c.abandon-in-Err.new.self.0 f.reserved.reservation.parts.items c.args.pool
    c.args.n memory
    begun.fills begun.pages begun.others begun.filling.pages.apart begun.some c.requires.some c.requires.page
    (size ∙ lent.len) (omega (arith, size, lent.some)) lent.keeps
    left after (kept_consumes left after c.in-Err.ensures.err) there.publishes there.tidy there.unraised there.others
    there.returned)
    (search rules) (search rules)
