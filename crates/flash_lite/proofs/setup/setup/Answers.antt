use Rattle.std.proofs.Common.{rules, ◌≡◌, ◌∙◌, List, true, None, ap, sym, subst}
use Rattle.iol_core.specs.State.{State}
use Rattle.iol_core.specs.declared.events.Event.{Event}
use Rattle.iol_system.specs.Machine.{machine_of}
use Rattle.iol_system.specs.Promises.{Chain}
use Rattle.flash_lite.specs.Setup.{SetsUp, calls, first_refusal, is_in_range}
use Rattle.flash_lite.proofs.Calls.AnyStore.{leaves_by, made_by}
use Rattle.flash_lite.proofs.World.NewSite.{sets_up_by, slots_kept}
use Rattle.flash_lite.proofs.setup.setup.Goals as goal

pub returns-clause-made : goal.returns-clause-made
returns-clause-made g c =
    let events : c.as_slice.result.now ≡ calls c.args.site.now = c.as_slice.ensures.value ∙ c.in_ok-events.ensures in
    let none : first_refusal c.in_ok-replies.replies.items ≡ None = ap first_refusal (sym c.as_slice-2.ensures.value)
    ∙ (sym c.refusal_in.ensures ∙ c.in-None.is) in
    made_by c.args.site.now c.args.system.now c.run.new.self c.as_slice.result.now c.in_ok-replies.replies.items events
    c.in_ok-replies.ensures.chain none

pub returns-clause-leaves : goal.returns-clause-leaves
returns-clause-leaves g c =
    let fits : is_in_range c.args.site.now ≡ true = search rules in
    let events : c.as_slice.result.now ≡ calls c.args.site.now = c.as_slice.ensures.value ∙ c.in_ok-events.ensures in
    let none : first_refusal c.in_ok-replies.replies.items ≡ None = ap first_refusal (sym c.as_slice-2.ensures.value)
    ∙ (sym c.refusal_in.ensures ∙ c.in-None.is) in
    leaves_by c.args.site.now c.args.system.now c.run.new.self c.in_ok-replies.replies.items fits
    (subst (λ (es : List Event). Chain c.args.system.now es c.in_ok-replies.replies.items c.run.new.self) events
    c.in_ok-replies.ensures.chain) none

pub returns-clause-over_honest : goal.returns-clause-over_honest
returns-clause-over_honest g c honest =
    let fits : is_in_range c.args.site.now ≡ true = search rules in
    let events : c.as_slice.result.now ≡ calls c.args.site.now = c.as_slice.ensures.value ∙ c.in_ok-events.ensures in
    let none : first_refusal c.in_ok-replies.replies.items ≡ None = ap first_refusal (sym c.as_slice-2.ensures.value)
    ∙ (sym c.refusal_in.ensures ∙ c.in-None.is) in
    let set : SetsUp c.args.site.now (machine_of c.args.system.now) (machine_of c.run.new.self) =
    sets_up_by c.args.site.now (machine_of c.args.system.now) (machine_of c.run.new.self) c.as_slice.result.now
    c.in_ok-replies.replies.items events (c.in_ok-replies.ensures.run honest) none in
    record {
      set_up = set;
      slots = slots_kept c.args.site.now (machine_of c.args.system.now) (machine_of c.run.new.self) set;
      new = λ w is in_slots. c.set_up_is_a_new_world.ensures c.args.site.now (machine_of c.args.system.now) w fits
          (subst (λ (m : State). SetsUp c.args.site.now (machine_of c.args.system.now) m) (sym is) set) in_slots;
    }
