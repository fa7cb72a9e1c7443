-- What is reported of the run of a generated system.
use Rattle.std.specs.Prelude.{ℕ, List, [], ◌++◌, length, codes, decimal, replicate, sum_by}
use Rattle.bin_config.specs.declared.version.Version.TheVariants.{Two}
use Rattle.xm_ports.specs.Channels.{Content, messages_of}
use Rattle.xm_container.specs.Box.{box_text}
use Rattle.loaded_system.specs.System as loaded_system
use Rattle.machine_model.specs.Lines.{report}
use Rattle.machine_model.specs.Machine.{Machine, run, start}
use Rattle.machine_model.specs.View.{System}
use Rattle.system_state.specs.State.{with_inputs}
use Rattle.generated_system.specs.Generated.{generated}

-- how long the run is: 1000 frames
unfoldable pub run_length : ℕ
run_length = 16_000_000

-- the line of what was made and run: the number, the bytes of its container, and the ticks done
unfoldable pub made_line : ℕ → ℕ → ℕ → List ℕ
made_line number container ticks =
    codes "gen number=" ++ decimal number ++ codes " container=" ++ decimal container ++ codes " ticks=" ++ decimal ticks ++ codes "\n"

-- the line of what came of it: the ticks in which partitions ran, the lines of the report, and the messages that wait
unfoldable pub came_line : ℕ → ℕ → ℕ → List ℕ
came_line exec lines queued = codes "exec=" ++ decimal exec ++ codes " lines=" ++ decimal lines ++ codes " queued=" ++ decimal queued ++ codes "\n"

-- in how many ticks partitions of a machine ran
unfoldable pub exec_in : Machine → ℕ
exec_in g = sum_by (λ ps. ps.clocks.execution) g.parts

-- how many messages wait in channels
unfoldable pub waiting_in : List Content → ℕ
waiting_in contents = sum_by (λ content. length (messages_of content)) contents

-- the two lines, of a machine that has run and whose report has this many lines
unfoldable pub reported_of : ℕ → ℕ → ℕ → Machine → List ℕ
reported_of number container lines g = made_line number container g.ticks ++ came_line (exec_in g) lines (waiting_in g.channels)

-- a system whose partitions have no input words
abbrev pub without_inputs : loaded_system.System → System
without_inputs system = with_inputs system (replicate 16 [])

-- what is reported of a run of this many ticks of a system
unfoldable pub reported_of_run : ℕ → ℕ → loaded_system.System → List ℕ
reported_of_run number ticks system =
    reported_of number (length (box_text Two system)) (length (report (without_inputs system) ticks)) (run (start (without_inputs system)) ticks)

-- what is reported of the system that is generated out of a number
unfoldable pub generated_text : ℕ → List ℕ
generated_text number = reported_of_run number run_length (generated number)
