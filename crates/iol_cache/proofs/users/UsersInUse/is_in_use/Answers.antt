use Rattle.std.proofs.Common.{◌≡◌, ◌-◌, ap, sym, ◌∙◌, arith, get_or, subst}
use Rattle.iol_hold.specs.Moves.{Covers}
use Rattle.iol_hold.specs.Texts.{bufs_of}
use Rattle.iol_extent.specs.Extents.{Extent}
use Rattle.iol_cache.specs.CacheState.{file_in}
use Rattle.iol_cache.proofs.Extents.FileEntries.{file_at_number}
use Rattle.iol_cache.proofs.Extents.HeldSlices.{clean_numbered, found_is, not_found, used_is, are_within, covers_at}
use Rattle.iol_cache.proofs.users.UsersInUse.is_in_use.Goals.{After-index-self-number, After-slices}
use Rattle.iol_cache.proofs.users.UsersInUse.is_in_use.Goals as goal

pub overflow_sub-number : goal.overflow_sub-number
overflow_sub-number c = let b = clean_numbered c.requires.1 in omega (arith, b.0, c.number.ensures)

pub bounds-self-number : goal.bounds-self-number
bounds-self-number c = let b = clean_numbered c.requires.1 in omega (arith, b.0, b.1, c.number.ensures)

file : (c : After-index-self-number) → c.index-self-number.result ≡ file_in c.args.self.now.files.now c.args.file
file c = file_at_number c.args.self.now.files.now c.args.file c.number.result c.index-self-number.result
    c.number.ensures (clean_numbered c.requires.1) c.index-self-number.is

-- its slices are those of the clean extent that is asked about
parts : (c : After-slices) → c.slices.result.now ≡ c.requires.1.extent.parts
parts c =
    let fs = c.args.self.now.files.now in
    c.slices.ensures
    ∙ ap (λ (e : Extent). e.parts)
    (found_is fs c.args.file c.args.at (get_or fs (c.number.result - 1) c.index-self-number.result) _
    (c.requires.0.files c.args.file) c.requires.1 (sym c.index-self-number.is
    ∙ file (goal.at.After-slices c).After-index-self-number) c.in-Some.ensures.extent)

covered : (c : After-slices) → Covers c.args.self.now.store.now (bufs_of c.slices.result.now)
covered c =
    subst (λ xs. Covers c.args.self.now.store.now (bufs_of xs)) (sym (parts c))
    (covers_at c.args.self.now.files.now c.args.file c.args.at c.requires.1.extent c.requires.1.begins
    c.requires.0.covered)

pub is_in_use-requires-clause-within : goal.is_in_use-requires-clause-within
is_in_use-requires-clause-within c =
    are_within c.slices.result.now _ c.requires.0.pages
    (covered (goal.at.is_in_use-requires-clause-within c).After-slices)

pub is_in_use-requires-clause-covered : goal.is_in_use-requires-clause-covered
is_in_use-requires-clause-covered c = covered (goal.at.is_in_use-requires-clause-covered c).After-slices

pub returns-in-Some : goal.returns-in-Some
returns-in-Some c =
    c.is_in_use.ensures ∙ used_is c.args.self.now.files.now c.args.self.now.marks.now c.args.file c.args.at
    c.slices.result.now c.requires.0 c.requires.1 (parts (goal.at.returns-in-Some c).After-slices)

pub returns-in-None : goal.returns-in-None
returns-in-None c =
    let fs = c.args.self.now.files.now in
    absurd (not_found fs c.args.file c.args.at (get_or fs (c.number.result - 1) c.index-self-number.result)
    (c.requires.0.files c.args.file) c.requires.1 (sym c.index-self-number.is
    ∙ file (goal.at.returns-in-None c).After-index-self-number) c.in-None.ensures.extent)
