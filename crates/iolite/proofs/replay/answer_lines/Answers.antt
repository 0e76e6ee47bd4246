use Rattle.std.proofs.Common.{◌≡◌, ◌∙◌, ◌+◌, ℕ, List, [], ◌∷◌, ◌++◌, length, take, drop, map, refl, sym, subst}
use Rattle.std.proofs.Common.{append_assoc, lit<, true}
use Rattle.std.specs.Borrow.{Bor}
use Rattle.std.specs.Prelude.{Option}
use Rattle.std.specs.Io.KnownBytes.{Appends}
use Rattle.std.proofs.lemmas.Iterator.Consumers.{YieldsList-at, YieldsList-so_far, YieldsList-turn, YieldsList-end}
use Rattle.std.proofs.lemmas.Iterator.Splits.{YieldsList-from_str_split}
use Rattle.std.proofs.lemmas.List.{append-nil, map-append}
use Rattle.iol_system.specs.Machine.{SystemState}
use Rattle.iolite.specs.Answers.{Answering, EndsWithin, WritesTo}
use Rattle.iolite.specs.Script.{is_asking, lines}
use Rattle.iolite.proofs.ScriptAnswers.{Answering-line, Answering-none, Answering-written, EndsWanting-here}
use Rattle.iolite.proofs.ScriptAnswers.{EndsWithin-here, LosesFirst-none, asks_at, then_on_ok}
use Rattle.iolite.proofs.Appends.{WritesTo-all}
use Rattle.iolite.proofs.ScriptWords.{split_at_turn}
use Rattle.iolite.proofs.replay.answer_lines.Given.{Over}
use Rattle.iolite.proofs.replay.answer_lines.Goals.{In-Some, In-None}
use Rattle.iolite.proofs.replay.answer_lines.Goals as goal

-- the lines that an iterator has given
abbrev given : List (Bor (List ℕ)) → List (List ℕ)
given xs = map (λ (x : Bor (List ℕ)). x.now) xs

-- the answers to the lines so far end here, after all or some of the pending output is written
ends_written : (all came rest : List (List ℕ)) (start end : SystemState) (old mid new : Option (List ℕ))
    (pending left : List ℕ) → all ≡ came ++ rest → Answering came start end old mid pending
    → WritesTo mid new pending left → EndsWithin all start old new
ends_written all came rest start end old mid new pending left begins so writes =
    EndsWithin-here all came rest start end old new left begins
    (Answering-written came start end old mid new pending left so writes)

pub returns-in-Err-clause-within : goal.returns-in-Err-clause-within
returns-in-Err-clause-within g c =
    let known = g.W.Write.contents c.args.output.now in
    EndsWithin-here (lines c.args.text.now) [] (lines c.args.text.now) c.args.system.now c.args.system.now known known
    [] refl (Answering-none c.args.system.now known [] refl)

pub returns-in-Err-clause-memory : goal.returns-in-Err-clause-memory
returns-in-Err-clause-memory g c = λ wants.
    let all = lines c.args.text.now in
    let start = c.args.system.now in
    let known = g.W.Write.contents c.args.output.now in
    EndsWanting-here all [] all start start start known known refl (Answering-none start known [] refl)
    (LosesFirst-none all start)

pub loop-line-init : goal.loop-line-init
loop-line-init g c = Answering-none c.args.system.now (g.W.Write.contents c.args.output.now) _ c.in-Ok.ensures.items

-- the lines before this one, this line, and those after it
here : (g : Over) (c : In-Some g) → lines c.args.text.now ≡ given c.loop-line.yielded ++ c.in-Some.line.now
    ∷ drop (length c.loop-line.yielded + 1) (lines c.args.text.now)
here g c =
    let all = lines c.args.text.now in
    let n = length c.loop-line.yielded in
    let parts = YieldsList-from_str_split {s = c.split-line-items.result} 10 c.args.text.now (lit< tt)
    c.split-line-items.ensures.text c.split-line-items.ensures.has_more c.split-line-items.ensures.pattern in
    let so_far : given c.loop-line.yielded ≡ take n all =
    YieldsList-so_far (YieldsList-at (cc) parts) c.loop-line.yielded _ c.loop-line.yielded_by in
    let turn = YieldsList-turn (YieldsList-at (cc) parts) c.loop-line.yielded _ c.loop-line.yielded_by _ _
    c.in-Some.line c.in-Some.is c.next.ensures.steps in
    split_at_turn all (given c.loop-line.yielded) c.in-Some.line.now n so_far turn.0 turn.1

-- at the end of the iteration, all lines were given
every : (g : Over) (c : In-None g) → given c.loop-line.yielded ≡ lines c.args.text.now
every g c =
    let parts = YieldsList-from_str_split {s = c.split-line-items.result} 10 c.args.text.now (lit< tt)
    c.split-line-items.ensures.text c.split-line-items.ensures.has_more c.split-line-items.ensures.pattern in
    (YieldsList-end (YieldsList-at (cc) parts) c.loop-line.yielded _ c.loop-line.yielded_by _ _ c.in-None.is
    c.next.ensures.steps).0

pub answer_line-requires : goal.answer_line-requires
answer_line-requires g c =
    let asks : is_asking c.in-Some.line.now ≡ true = sym c.is_asking.ensures ∙ c.if-not-is_asking.false in
    asks_at (lines c.args.text.now) (given c.loop-line.yielded) _ c.in-Some.line.now
    (here g (goal.at.answer_line-requires g c).In-Some) asks c.requires

-- ---- Memory ran out at a line

pub returns-in_err-finish-clause-within : goal.returns-in_err-finish-clause-within
returns-in_err-finish-clause-within g c =
    let some = c.finish.ensures.some in
    let writes : WritesTo (g.W.Write.contents c.loop-line.output) (g.W.Write.contents c.finish.new.output)
    c.loop-line.pending.items some.0 =
    subst
    (λ (bytes : List ℕ). WritesTo (g.W.Write.contents c.loop-line.output) (g.W.Write.contents c.finish.new.output)
    bytes some.0) c.as_slice.ensures.value some.1 in
    ends_written (lines c.args.text.now) (given c.loop-line.yielded) _ c.args.system.now c.loop-line.system _ _ _
    c.loop-line.pending.items some.0 (here g (goal.at.returns-in_err-finish-clause-within g c).In-Some)
    c.loop-line.invariant writes

pub returns-in-Err-answer_line-clause-within : goal.returns-in-Err-answer_line-clause-within
returns-in-Err-answer_line-clause-within g c =
    let mid = g.W.Write.contents c.loop-line.output in
    let new = g.W.Write.contents c.finish.new.output in
    ends_written (lines c.args.text.now) (given c.loop-line.yielded) _ c.args.system.now c.loop-line.system _ mid new
    c.loop-line.pending.items [] (here g (goal.at.returns-in-Err-answer_line-clause-within g c).In-Some)
    c.loop-line.invariant
    (WritesTo-all mid new c.loop-line.pending.items
    (subst (Appends mid new) c.as_slice.ensures.value c.in_ok-finish.ensures.all))

pub returns-in-Err-answer_line-clause-memory : goal.returns-in-Err-answer_line-clause-memory
returns-in-Err-answer_line-clause-memory g c = λ wants.
    let came = given c.loop-line.yielded in
    let start = c.args.system.now in
    let old = g.W.Write.contents c.args.output.now in
    let mid = g.W.Write.contents c.loop-line.output in
    let new = g.W.Write.contents c.finish.new.output in
    let pending = c.loop-line.pending.items in
    let writes : WritesTo mid new pending [] =
    WritesTo-all mid new pending (subst (Appends mid new) c.as_slice.ensures.value c.in_ok-finish.ensures.all) in
    EndsWanting-here (lines c.args.text.now) came _ start c.loop-line.system c.answer_line.new.system old new
    (here g (goal.at.returns-in-Err-answer_line-clause-memory g c).In-Some)
    (Answering-written came start c.loop-line.system old mid new pending [] c.loop-line.invariant writes)
    c.in-Err-answer_line.ensures.lost

-- ---- The line was answered

pub loop-line-preserved : goal.loop-line-preserved
loop-line-preserved g c =
    let came = given c.loop-line.yielded in
    let line = c.in-Some.line.now in
    let start = c.args.system.now in
    let old = g.W.Write.contents c.args.output.now in
    let mid = g.W.Write.contents c.loop-line.output in
    let new = g.W.Write.contents c.gather.new.output in
    let end = c.answer_line.new.system in
    let pending = c.loop-line.pending.items in
    let text = c.answer_line.new.text.items in
    let left = c.gather.new.pending.items in
    let answered : Answering (came ++ line ∷ []) start end old mid (pending ++ text) =
    Answering-line came start c.loop-line.system end old mid pending line text c.loop-line.invariant
    (sym c.is_asking.ensures ∙ c.if-not-is_asking.false) c.in_default.ensures.answers in
    let writes : WritesTo mid new (pending ++ text) left =
    subst (λ (bytes : List ℕ). WritesTo mid new (pending ++ bytes) left) c.as_slice-in-loop-line.ensures.value
    c.in_ok-gather.ensures.ok in
    rw (map-append (λ (x : Bor (List ℕ)). x.now) c.loop-line.yielded (c.in-Some.line ∷ []))
    (Answering-written (came ++ line ∷ []) start end old mid new (pending ++ text) left answered writes)

pub returns-in_err-gather-clause-within : goal.returns-in_err-gather-clause-within
returns-in_err-gather-clause-within g c =
    let came = given c.loop-line.yielded in
    let line = c.in-Some.line.now in
    let mid = g.W.Write.contents c.loop-line.output in
    let new = g.W.Write.contents c.gather.new.output in
    let pending = c.loop-line.pending.items in
    let text = c.answer_line.new.text.items in
    let some = c.gather.ensures.some in
    let answered : Answering (came ++ line ∷ []) c.args.system.now c.answer_line.new.system
    (g.W.Write.contents c.args.output.now) mid (pending ++ text) =
    Answering-line came c.args.system.now c.loop-line.system c.answer_line.new.system _ mid pending line text
    c.loop-line.invariant (sym c.is_asking.ensures ∙ c.if-not-is_asking.false) c.in_default.ensures.answers in
    ends_written (lines c.args.text.now) (came ++ line ∷ []) _ c.args.system.now c.answer_line.new.system _ mid new
    (pending ++ text) some.0
    (here g (goal.at.returns-in_err-gather-clause-within g c).In-Some
    ∙ sym (append_assoc came (line ∷ []) (drop (length c.loop-line.yielded + 1) (lines c.args.text.now)))) answered
    (subst (λ (bytes : List ℕ). WritesTo mid new (pending ++ bytes) some.0) c.as_slice-in-loop-line.ensures.value
    some.1)

-- ---- All lines were answered

pub returns-clause-within : goal.returns-clause-within
returns-clause-within g c =
    let came = given c.loop-line.yielded in
    let mid = g.W.Write.contents c.loop-line.output in
    let new = g.W.Write.contents c.finish-2.new.output in
    let some = c.finish-2.ensures.some in
    ends_written (lines c.args.text.now) came [] c.args.system.now c.loop-line.system _ mid new
    c.loop-line.pending.items some.0 (sym (every g (goal.at.returns-clause-within g c).In-None)
    ∙ sym (append-nil came)) c.loop-line.invariant
    (subst (λ (bytes : List ℕ). WritesTo mid new bytes some.0) c.as_slice-2.ensures.value some.1)

pub returns-clause-answered : goal.returns-clause-answered
returns-clause-answered g c =
    let start = c.args.system.now in
    let old = g.W.Write.contents c.args.output.now in
    let mid = g.W.Write.contents c.loop-line.output in
    let new = g.W.Write.contents c.finish-2.new.output in
    let end = c.loop-line.system in
    let pending = c.loop-line.pending.items in
    then_on_ok c.finish-2.result (λ written.
    let writes : WritesTo mid new pending [] =
    WritesTo-all mid new pending (subst (Appends mid new) c.as_slice-2.ensures.value written) in
    subst (λ (ls : List (List ℕ)). Answering ls start end old new [])
    (every g (goal.at.returns-clause-answered g c).In-None)
    (Answering-written (given c.loop-line.yielded) start end old mid new pending [] c.loop-line.invariant writes))
    c.finish-2.ensures.all
