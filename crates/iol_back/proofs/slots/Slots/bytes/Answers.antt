use Rattle.std.proofs.Common.{ℕ, ◌≡◌, ◌-◌, ◌∙◌, ◌<◌, inl, inr, sym, ap, length, arith, get_or}
use Rattle.std.proofs.lemmas.List.{length-map}
use Rattle.iol_back.proofs.Contents.{content-none, content-map}
use Rattle.iol_back.proofs.slots.Slots.bytes.Goals as goal

pub returns-then-number-eq0 : goal.returns-then-number-eq0
returns-then-number-eq0 c = sym (content-none _ _ (inl (omega arith)))

pub returns-then-number-len : goal.returns-then-number-len
returns-then-number-len c =
    let past : length c.self.inside.lists.items < c.args.file = omega (arith, c.self.inside.lists.ok.0) in
    rw (← c.self.view_is) (sym (content-none _ _ (inr (rw length-map past))))

pub returns : goal.returns
returns c =
    let place : c.number-number.result - 1 ≡ c.args.file - 1 = omega (arith, c.number-number.ensures) in
    let item = c.index.ensures ∙ ap (λ (k : ℕ). get_or c.self.inside.lists.items k c.index.result.now) place in
    rw (← c.self.view_is) (c.as_slice.ensures.value ∙ ap (λ v. v.items) item
    ∙ sym (content-map (λ v. v.items) c.self.inside.lists.items c.args.file c.index.result.now (omega arith)
    (omega (arith, c.self.inside.lists.ok.0))))
