-- The initial state of the examples of single calls, and the reply of a call if pages, memory and the store suffice.
use Rattle.std.specs.Prelude.{true, false, [], ◌∷◌, ◌++◌, Some, None, Result, Ok, Err}
use Rattle.std.specs.Prelude.{codes}
use Rattle.iol_core.specs.Text.{Text, labelled}
use Rattle.iol_core.specs.State.{State, Domain, new_domain, no_domain, new_conn}
use Rattle.iol_core.specs.Meaning.{Meaning, first}
use Rattle.iol_core.specs.declared.refusals.Refusal.{Refusal}
use Rattle.iol_core.specs.declared.descriptors.Descriptor.TheVariants as on
use Rattle.iol_core.specs.declared.descriptors.Mode.TheVariants as mode

-- the first refusal, or the answer
abbrev pub answered : {A : Type 0} → Meaning A → Result A Refusal
answered m = elim (first m.refusals) [ None ↦ Ok m.answer | Some x ↦ Err x ]

-- Domain 1 is the caller, domain 2 is live too, domain 3 has ended. Pool 1 lists domains 1 and 2, pool 2 only domain 1,
-- pool 3 only domain 2; pool 4 lists domains 1 and 2 and is closed. Domain 1 has aggregate 1, "ab" in pool 1, and
-- aggregate 2, "cd" in pool 2.
abbrev pub caller : Domain Text
caller = record {
  live = true;
  aggs = (1, labelled 1 (codes "ab")) ∷ (2, labelled 2 (codes "cd")) ∷ [];
  next_agg = 3;
  fds = Some (on.File 1 1 mode.Both) ∷ Some (on.ReadEnd 0) ∷ None ∷ Some (on.WriteEnd 0) ∷ Some (on.Connection 1)
      ∷ Some (on.File 2 0 mode.Read) ∷ Some (on.WriteEnd 2) ∷ [];
  default = Some 1;
}

-- Pipe 0 holds "ab" in pool 1, then "cd" in pool 2. The read end of pipe 2 is closed. Connection 1 is of domain 1.
-- Connection 2 waits for a domain of pool 3, connection 3 for one of pool 1.
abbrev pub world : State
world = record {
  domains = caller ∷ new_domain ∷ no_domain ∷ [];
  pools =
      record { domains = 1 ∷ 2 ∷ []; closed = false } ∷
      record { domains = 1 ∷ []; closed = false } ∷
      record { domains = 2 ∷ []; closed = false } ∷
      record { domains = 1 ∷ 2 ∷ []; closed = true } ∷ [];
  files = record { name = codes "f"; pool = 1 } ∷ record { name = codes "g"; pool = 2 }
      ∷ record { name = codes "h"; pool = 3 } ∷ [];
  slots = codes "abcdef" ∷ codes "xyz" ∷ [] ∷ codes "new" ∷ [];
  pipes = Some (record { queue = labelled 1 (codes "ab") ++ labelled 2 (codes "cd"); reading = true; writing = true })
      ∷ None ∷ Some (record { queue = []; reading = false; writing = true }) ∷ [];
  conns = (
    1,
    record {
      pool = 1;
      incoming = labelled 1 (codes "in");
      outgoing = labelled 1 (codes "out");
      accepted =
          true;
      closed = false;
      peer = None;
    },
  ) ∷
      (2, new_conn 3) ∷
      (3, new_conn 1) ∷ [];
  next_conn = 4;
}

-- domain 2 is d
abbrev pub with_receiver : State → Domain Text → State
with_receiver s d = record s { domains = caller ∷ d ∷ no_domain ∷ [] }
