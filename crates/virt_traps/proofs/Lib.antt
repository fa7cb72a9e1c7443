mod RangeLemmas
mod AccessLemmas
mod WindowLemmas
mod SettledLemmas
mod InterruptLemmas
mod DeliveryLemmas
