pub mod IdleTimerLemmas
