mod ContentLemmas
mod PathLemmas
mod SettledLemmas
mod ViewLemmas
