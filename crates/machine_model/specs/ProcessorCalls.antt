-- The calls on interrupts, the console, input words and the virtual processor: numbers 30 to 37.
use Rattle.machine_model.specs.Caller.{Caller, Served}
use Rattle.machine_model.specs.Calls.{ClearIrqmask, FlushRegwin, Iret, ReadInput, SetIrqmask, SetPsr, SetTbr, WriteConsole, effect_of_call}
use Rattle.machine_model.specs.Effects.{performed}

-- call 30, XM_set_irqmask(a): the interrupts of a are masked
unfoldable pub set_irqmask : Caller → Served
set_irqmask caller = performed (effect_of_call SetIrqmask caller) caller

-- call 31, XM_clear_irqmask(a): the interrupts of a are masked no more
unfoldable pub clear_irqmask : Caller → Served
clear_irqmask caller = performed (effect_of_call ClearIrqmask caller) caller

-- call 32, XM_write_console(a, b): b bytes at a, at most 1024; their number is the result
unfoldable pub write_console : Caller → Served
write_console caller = performed (effect_of_call WriteConsole caller) caller

-- call 33, XM_read_input(a)
unfoldable pub read_input : Caller → Served
read_input caller = performed (effect_of_call ReadInput caller) caller

-- call 34, sparc_iret: back from a trap
unfoldable pub iret : Caller → Served
iret caller = performed (effect_of_call Iret caller) caller

-- call 35, sparc_set_psr(a): the condition codes from bits 23 to 20, and from bit 5 whether traps are enabled
unfoldable pub set_psr : Caller → Served
set_psr caller = performed (effect_of_call SetPsr caller) caller

-- call 36, sparc_set_tbr(a): the table of traps stands at a, a multiple of 4096
unfoldable pub set_tbr : Caller → Served
set_tbr caller = performed (effect_of_call SetTbr caller) caller

-- call 37, sparc_flush_regwin: all windows but the current one are spilled
unfoldable pub flush_regwin : Caller → Served
flush_regwin caller = performed (effect_of_call FlushRegwin caller) caller
