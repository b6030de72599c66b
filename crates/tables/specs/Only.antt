-- Rows that are their keys alone.
use Rattle.std.specs.Prelude.{List, [], ◌∷◌}
use Rattle.tables.specs.declared.row.Only.{Only}

abbrev pub only : {K : Type 0} → K → Only K
only k = record { key = k }

abbrev pub key_in : {K : Type 0} → Only K → K
key_in r = r.key

unfoldable pub only_rows : {K : Type 0} → List K → List (Only K)
only_rows [] = []
only_rows (k ∷ ks) = only k ∷ only_rows ks
