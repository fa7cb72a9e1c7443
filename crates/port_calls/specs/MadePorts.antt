-- Made ports as the calls find them in the configuration.
pub use Rattle.system_state.specs.State.{table_in}
