use Rattle.std.proofs.Common.{◌≡◌, true, ◌∙◌, ap, sym, subst}
use Rattle.iol_core.specs.Calls.Pools.{admitting, has_place}
use Rattle.iol_core.specs.NumberedLists.{is_numbered, with_numbered}
use Rattle.iol_core.specs.State as machine
use Rattle.iol_core.specs.State.{State}
use Rattle.iol_hold.specs.StoreState.{Stored}
use Rattle.iol_kernel.specs.Kernel.{state_of}
use Rattle.iol_kernel.specs.Calls.{Leaves}
use Rattle.iol_kernel.proofs.State.Admission.{admitted}
use Rattle.iol_kernel.proofs.State.ReadOf.{is_pool-read_of, list-read_of}
use Rattle.iol_kernel.proofs.kernel.Kernel.add_reader.Goals as goal

pub admit-requires-clause-there : goal.admit-requires-clause-there
admit-requires-clause-there c = sym (is_pool-read_of _ (state_of c.args.self.now) c.args.p) ∙ c.requires.there

pub admit-requires-clause-place : goal.admit-requires-clause-place
admit-requires-clause-place c =
    sym (ap (λ list. has_place list c.args.d) (list-read_of _ (state_of c.args.self.now) c.args.p)) ∙ c.requires.place

pub returns-clause-admits : goal.returns-clause-admits
returns-clause-admits c =
    let h = state_of c.args.self.now in
    let there : is_numbered h.store.pools c.args.p ≡ true = sym (is_pool-read_of _ h c.args.p) ∙ c.requires.there in
    let after : State → State =
    λ s. record s { pools = with_numbered s.pools c.args.p (admitting (machine.pool s c.args.p) c.args.d) } in
    subst (λ (t : Stored). Leaves after h (record h { store = t })) (sym c.admit.ensures)
    (admitted h c.args.p c.args.d there c.requires.sound)

pub returns-clause-list : goal.returns-clause-list
returns-clause-list c = ap (λ (t : Stored). record (state_of c.args.self.now) { store = t }) c.admit.ensures
