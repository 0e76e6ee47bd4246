use Rattle.std.proofs.Common.{[], ◌∷◌, ◌++◌, ◌∙◌, List, ap, arith, length, sym, ℕ}
use Rattle.std.specs.Prelude.{bytes_eq}
use Rattle.std.specs.List.{list_any}
use Rattle.iol_core.specs.State as machine
use Rattle.iol_cache.specs.Cache.{cached_of}
use Rattle.iol_kernel.specs.Kernel.{state_of}
use Rattle.iol_kernel.specs.Readings.{bytes_over}
use Rattle.iol_kernel.proofs.FileCalls.FileNames.{as_many, cache_sound, files-read_of, has-file_called, named_as}
use Rattle.iol_kernel.proofs.State.ReadOf.{closed-read_of}
use Rattle.iol_kernel.proofs.kernel.Kernel.add_file.Goals as goal

pub add-requires : goal.add-requires
add-requires c =
    let h = state_of c.args.self.now in
    record {
      unnamed = ap (λ (w : List ℕ). list_any (λ (x : machine.File). bytes_eq x.name w) h.files) c.as_slice.ensures
          ∙ has-file_called (bytes_over [] h.store) h c.args.name.now ∙ c.requires.unnamed;
      few =
          omega (
            arith,
            c.requires.few,
            as_many h c.requires.sound.filed,
            ap length (files-read_of (bytes_over [] h.store) h),
          );
    }

pub returns : goal.returns
returns c =
    let h = state_of c.args.self.now in
    let e = c.in_ok-add.ensures in
    record {
      done = named_as h c.args.by c.in_ok-add.field-0 c.args.pool c.args.name.now c.add.new.self.table.files
          (cached_of c.add.new.self.cache) c.requires.sound e.number (e.list
          ∙ ap (λ (w : List ℕ). (let x : machine.File = record { name = w; pool = c.args.pool } in h.files ++ x ∷ []))
          c.as_slice.ensures) e.cached e.orders
          (e.sound h.store (cache_sound h c.requires.sound) (sym (closed-read_of (bytes_over [] h.store) h c.args.pool)
          ∙ c.requires.opened));
      err = tt;
    }
