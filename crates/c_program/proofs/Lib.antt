pub mod InsideLists
