use Rattle.std.proofs.Common.{◌≡◌, ◌+◌, false, [], ◌∷◌, List, ℕ, length, drop, map, subst, lit<}
use Rattle.std.specs.Borrow.{Bor}
use Rattle.std.proofs.lemmas.List.{map-append}
use Rattle.std.proofs.lemmas.Iterator.Consumers.{YieldsList-at, YieldsList-from_enumerate, YieldsList-so_far}
use Rattle.std.proofs.lemmas.Iterator.Consumers.{YieldsList-turn, YieldsList-end}
use Rattle.std.proofs.lemmas.Iterator.Splits.{YieldsList-from_str_split}
use Rattle.iolite.specs.Script.{IsJudged, is_blank, lines, without_blank}
use Rattle.iolite.proofs.ScriptWords.{Judging-none, Judging-read, Judging-bad, map-enumerate, turn_of_enumeration}
use Rattle.iolite.proofs.script.judge.Goals as goal

pub loop-place-init : goal.loop-place-init
loop-place-init c =
    Judging-none c.new.result (record {
      config = c.new.ensures.config;
      fault = c.new.ensures.fault;
      slots = c.new.ensures.slots;
    })

pub loop-place-preserved : goal.loop-place-preserved
loop-place-preserved c =
    rw (map-append (λ p. p.1.now) c.loop-place.yielded ((c.in-Some.place, c.in-Some.line) ∷ []))
    (Judging-read (map (λ p. p.1.now) c.loop-place.yielded) c.loop-place.judged.setup c.add_line.new.self.setup
    c.loop-place.judged.has_asked c.add_line.new.self.has_asked c.in-Some.line.now c.loop-place.invariant (cc)
    c.in-Ok.ensures.judges)

pub returns-clause-judged : goal.returns-clause-judged
returns-clause-judged c =
    let parts = YieldsList-from_str_split {s = c.split.result} 10 c.args.text.now (lit< tt) c.split.ensures.text
    c.split.ensures.has_more c.split.ensures.pattern in
    let road = YieldsList-from_enumerate (YieldsList-at (cc) parts) (cc) in
    let all =
    YieldsList-end road c.loop-place.yielded _ c.loop-place.yielded_by _ _ c.in-None.is c.next.ensures.steps in
    subst (λ (ls : List (List ℕ)). IsJudged (without_blank ls) c.loop-place.judged.setup) (map-enumerate _ _ all.0)
    c.loop-place.invariant.judged

pub returns-in-Err-NotACommand-clause-bad : goal.returns-in-Err-NotACommand-clause-bad
returns-in-Err-NotACommand-clause-bad c = λ u.
    let says : is_blank c.in-Some.line.now ≡ false = cc (c.is_blank.ensures, c.if-is_blank.false) in
    let bad = c.add_line.ensures.bad (cc (c.in-Err-NotACommand.is, c.in-Err-NotACommand.field-0-is)) in
    let parts = YieldsList-from_str_split {s = c.split.result} 10 c.args.text.now (lit< tt) c.split.ensures.text
    c.split.ensures.has_more c.split.ensures.pattern in
    let road = YieldsList-from_enumerate (YieldsList-at (cc) parts) (cc) in
    let so_far = YieldsList-so_far road c.loop-place.yielded _ c.loop-place.yielded_by in
    let turn = YieldsList-turn road c.loop-place.yielded _ c.loop-place.yielded_by _ _ (c.in-Some.place, c.in-Some.line)
    c.in-Some.is c.next.ensures.steps in
    let here = turn_of_enumeration (lines c.args.text.now) c.loop-place.yielded c.in-Some.place c.in-Some.line.now
    so_far turn.0 turn.1 in
    Judging-bad (lines c.args.text.now) (map (λ (p : ℕ × Bor (List ℕ)). p.1.now) c.loop-place.yielded)
    (drop (length c.loop-place.yielded + 1) (lines c.args.text.now)) c.loop-place.judged.setup
    c.loop-place.judged.has_asked c.in-Some.line.now here c.loop-place.invariant says bad
