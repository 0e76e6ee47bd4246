use Rattle.std.proofs.Common.{◌≡◌, ℕ, ◌∙◌, ◌≤◌, arith, rules, sym, ap, List, subst, length}
use Rattle.iol_back.specs.Disk.{content}
use Rattle.iol_back.specs.Lists.{Overwrites, items_of}
use Rattle.iol_back.proofs.Contents.{content-map, content-some, content-set_same, content-set_other}
use Rattle.iol_back.proofs.slots.write_list.Goals.{After-index_mut}
use Rattle.iol_back.proofs.slots.write_list.Goals as goal

-- the list has the bytes that its file had
was : (c : After-index_mut) → c.index_mut.result.now.items ≡ content (items_of c.args.lists.now.items) c.args.number
was c =
    ap (λ v. v.items) c.index_mut.ensures.value
    ∙ sym (content-map (λ v. v.items) c.reach.new.lists.items c.args.number c.index_mut.result.now c.requires.slot.0
    c.in_ok-reach.ensures.there)
    ∙ c.reach.ensures.stay.each c.args.number

pub overwrite-requires : goal.overwrite-requires
overwrite-requires c =
    subst (λ (n : ℕ). c.args.at ≤ n) (sym (ap length (was (goal.at.overwrite-requires c).After-index_mut)))
    c.requires.begins

pub returns-in_err-reach-clause-writes : goal.returns-in_err-reach-clause-writes
returns-in_err-reach-clause-writes c = record {
  this = record {
    written = search rules;
    err = let same = c.reach.ensures.stay.each c.args.number in search rules;
    inside = λ within.
        let refused =
        c.in_err-reach.ensures.already
        (content-some (λ v. v.items) c.args.lists.now.items c.args.number
        (omega (arith, within, c.requires.some))) in
        cc refused;
  };
  others = record { each = λ f other. c.reach.ensures.stay.each f };
}

pub returns-clause-writes : goal.returns-clause-writes
returns-clause-writes c =
    let file = content (items_of c.args.lists.now.items) c.args.number in
    let there = c.in_ok-reach.ensures.there in
    let new = content-set_same (λ v. v.items) c.reach.new.lists.items c.args.number c.overwrite.new.list
    c.requires.slot.0 there in
    let over =
    subst (λ (w : List ℕ). Overwrites c.args.at c.args.bytes.now w c.overwrite.new.list.items c.overwrite.result)
    (was (goal.at.returns-clause-writes c).After-index_mut) c.overwrite.ensures in
    record {
      this = subst (λ (w : List ℕ). Overwrites c.args.at c.args.bytes.now file w c.overwrite.result) (sym new) over;
      others = record {
        each = λ f other. content-set_other (λ v. v.items) c.reach.new.lists.items c.args.number f c.overwrite.new.list
            c.requires.slot.0 there other ∙ c.reach.ensures.stay.each f;
      };
    }
