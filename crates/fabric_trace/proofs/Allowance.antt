-- What a port frees it was allowed to free.
pub mod RaisedRows
pub mod Raising
pub mod Allowances
pub mod Allowing
