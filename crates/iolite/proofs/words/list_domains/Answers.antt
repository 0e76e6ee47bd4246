use Rattle.std.proofs.Common.{◌∙◌, ap, sym, subst, map, length, lit<}
use Rattle.std.proofs.lemmas.Iterator.Consumers.{YieldsList-at, YieldsList-turn, YieldsList-end}
use Rattle.std.proofs.lemmas.Iterator.Splits.{YieldsList-from_str_split}
use Rattle.std.proofs.lemmas.Bool.{false≢true}
use Rattle.iolite.specs.Words.{IsShort, value}
use Rattle.iolite.proofs.words.list_domains.Goals as goal

pub unreachable-requires : goal.unreachable-requires
unreachable-requires c =
    let parts = YieldsList-from_str_split {s = c.split-number-items.result} 44 c.args.word.now (lit< tt)
    c.split-number-items.ensures.text c.split-number-items.ensures.has_more c.split-number-items.ensures.pattern in
    let turn = YieldsList-turn (YieldsList-at (cc) parts) c.loop-number.yielded _ c.loop-number.yielded_by _ _
    c.in-Some.number c.in-Some.is c.next.ensures.steps in
    let short : IsShort c.in-Some.number.now =
    subst IsShort (sym turn.1) (c.requires (length c.loop-number.yielded) c.in-Some.number.now turn.0) in
    absurd (false≢true (c.in_default.ensures.accepts.1 short))

pub returns : goal.returns
returns c =
    let parts = YieldsList-from_str_split {s = c.split-number-items.result} 44 c.args.word.now (lit< tt)
    c.split-number-items.ensures.text c.split-number-items.ensures.has_more c.split-number-items.ensures.pattern in
    let all = YieldsList-end (YieldsList-at (cc) parts) c.loop-number.yielded _ c.loop-number.yielded_by _ _
    c.in-None.is c.next.ensures.steps in
    c.from_vec.ensures ∙ (c.loop-number.invariant ∙ ap (map value) all.0)
