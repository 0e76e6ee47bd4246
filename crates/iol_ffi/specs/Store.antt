-- The store under a system that C makes.
use Rattle.std.specs.Prelude.{[], false}
use Rattle.iol_back.specs.Disk.{Disk}
use Rattle.iol_ffi.specs.declared.store.HostStore.{HostStore}
use Rattle.iol_ffi.specs.declared.store.HostStore.TheVariants as store

-- The store in memory is honest. Of descriptors that C opened, only the lengths that C passed and the number of
-- failures are known.
abbrev pub disk_of : HostStore → Disk
disk_of (store.Memory m) = m
disk_of (store.Opened o) = record { slots = []; failures = o.failures; honest = false; reported = o.lens.items }
