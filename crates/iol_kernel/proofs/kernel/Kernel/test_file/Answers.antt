use Rattle.std.proofs.Common.{[], ◌∙◌, ap, rules, sym}
use Rattle.iol_core.specs.Calls.Writes.{pool_for}
use Rattle.iol_pool.specs.Pools.{pool_in}
use Rattle.iol_kernel.specs.Kernel.{state_of}
use Rattle.iol_kernel.specs.KernelState.{read_of}
use Rattle.iol_kernel.specs.WritesByCopy.{PassesTests}
use Rattle.iol_kernel.specs.Readings.{bytes_over}
use Rattle.iol_kernel.proofs.State.ReadOf.{closed-read_of}
use Rattle.iol_kernel.proofs.FileCalls.Overwrites.{in_cache, pool-file}
use Rattle.iol_kernel.proofs.kernel.Kernel.test_file.Goals as goal

pub returns : goal.returns
returns c =
    let h = state_of c.args.self.now in
    let r = bytes_over [] h.store in
    let held = c.requires.held in
    let passes : PassesTests c.args.by c.args.fd c.args.bytes.now c.file_pool.result h = record {
      passed = search (rules);
      pool = λ f. c.file_pool.ensures f ∙ ap (pool_for (read_of f h) c.args.by) (sym (held.from f));
      opened = closed-read_of r h c.file_pool.result
          ∙ ap (λ q. (pool_in h.store.pools q).closed) (c.file_pool.ensures r ∙ pool-file r h c.args.file held.sound)
          ∙ held.sound.pooled.files_open c.args.file (in_cache h c.args.file held.sound c.requires.there);
    } in
    record { passes = passes; refused = tt }
