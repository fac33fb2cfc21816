-- Laws: frames that begin with their line. Assumes nothing.
pub mod Laws
