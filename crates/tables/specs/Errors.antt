-- The number of each refusal to make a table.
use Rattle.std.specs.Prelude.{ℕ, Some, None, Option}
use Rattle.tables.specs.declared.table.error.TableError.{TableError}
use Rattle.tables.specs.declared.table.error.TableError.TheVariants.{Rows, Memory}

abbrev pub number_of : TableError → Option ℕ
number_of Rows = Some 2
number_of Memory = None
