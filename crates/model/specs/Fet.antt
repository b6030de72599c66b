-- What a fetcher holds.
use Rattle.std.specs.Prelude.{ℕ, Option}
use Rattle.kinds.specs.declared.pair.Pair.{Pair}
use Rattle.tables.specs.declared.row.Only.{Only}
use Rattle.tables.specs.Tables.{Tab}
use Rattle.roster.specs.Rosters.{Roster}
use Rattle.live.specs.declared.row.KeyRow.{KeyRow}
use Rattle.live.specs.declared.queue.QueueRow.{QueueRow}

-- `listing` is memory in which a fetch lists the queue, empty between calls
pub record Fet (P V K : Type 0) : Type 0 where
  pub engine : ℕ
  pub timeout : ℕ
  pub delay : ℕ
  pub own : Option P
  pub roster : Roster P V
  pub blocked : Tab (Only P)
  pub keys : Tab (KeyRow K P)
  pub listing : Tab (QueueRow K)
  pub targets : Tab (Only (Pair K P))
  pub next : Option ℕ
  pub waiter : Option ℕ

abbrev pub with_roster : {P V K : Type 0} → Roster P V → Fet P V K → Fet P V K
with_roster t f = record { engine = f.engine; timeout = f.timeout; delay = f.delay; own = f.own; roster = t; blocked = f.blocked; keys = f.keys; listing = f.listing; targets = f.targets; next = f.next; waiter = f.waiter }

abbrev pub with_blocked : {P V K : Type 0} → Tab (Only P) → Fet P V K → Fet P V K
with_blocked t f = record { engine = f.engine; timeout = f.timeout; delay = f.delay; own = f.own; roster = f.roster; blocked = t; keys = f.keys; listing = f.listing; targets = f.targets; next = f.next; waiter = f.waiter }

abbrev pub with_keys : {P V K : Type 0} → Tab (KeyRow K P) → Fet P V K → Fet P V K
with_keys t f = record { engine = f.engine; timeout = f.timeout; delay = f.delay; own = f.own; roster = f.roster; blocked = f.blocked; keys = t; listing = f.listing; targets = f.targets; next = f.next; waiter = f.waiter }

abbrev pub with_targets : {P V K : Type 0} → Tab (Only (Pair K P)) → Fet P V K → Fet P V K
with_targets t f = record { engine = f.engine; timeout = f.timeout; delay = f.delay; own = f.own; roster = f.roster; blocked = f.blocked; keys = f.keys; listing = f.listing; targets = t; next = f.next; waiter = f.waiter }

abbrev pub with_next : {P V K : Type 0} → Option ℕ → Fet P V K → Fet P V K
with_next n f = record { engine = f.engine; timeout = f.timeout; delay = f.delay; own = f.own; roster = f.roster; blocked = f.blocked; keys = f.keys; listing = f.listing; targets = f.targets; next = n; waiter = f.waiter }

abbrev pub with_waiter : {P V K : Type 0} → Option ℕ → Fet P V K → Fet P V K
with_waiter w f = record { engine = f.engine; timeout = f.timeout; delay = f.delay; own = f.own; roster = f.roster; blocked = f.blocked; keys = f.keys; listing = f.listing; targets = f.targets; next = f.next; waiter = w }
