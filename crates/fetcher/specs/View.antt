-- What a fetcher holds, as lists and numbers.
use Rattle.tables.specs.Tables.{tab_of, emptied}
use Rattle.roster.specs.Rosters.{roster_of}
use Rattle.model.specs.Fet.{Fet}
use Rattle.fetcher.specs.declared.fetcher.Fetcher.{Fetcher}

abbrev pub fet_of : {P V K : Type 0} → Fetcher P V K → Fet P V K
fet_of f = record {
  engine = f.engine;
  timeout = f.timeout;
  delay = f.delay;
  own = f.own;
  roster = roster_of f.roster;
  blocked = tab_of f.blocked;
  keys = tab_of f.keys.table;
  listing = emptied (tab_of f.keys.queue);
  targets = tab_of f.targets.table;
  next = f.next;
  waiter = f.waiter;
}
