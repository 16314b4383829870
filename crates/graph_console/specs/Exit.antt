-- The exit statuses.
use Rattle.std.specs.Prelude.{ℕ}
use Rattle.graph_console.specs.declared.exit.Exit.{Exit}
use Rattle.graph_console.specs.declared.exit.Exit.TheVariants.{Done, StoreFailed, Usage, InputFault}
use Rattle.graph_console.specs.declared.exit.Exit.TheVariants.{OutputFault, NoMemory, BadFiles}
use Rattle.graph_console.specs.declared.exit.Exit.TheVariants.{ConfigDiffers, DiskFault}
use Rattle.graph_console.specs.declared.exit.Exit.TheVariants.{InputTooLong}

abbrev pub status : Exit → ℕ
status Done = 0
status StoreFailed = 1
status Usage = 2
status InputFault = 3
status OutputFault = 4
status NoMemory = 5
status BadFiles = 6
status (ConfigDiffers stored asked) = 7
status DiskFault = 8
status InputTooLong = 9
