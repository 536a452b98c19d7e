pub mod stacking
pub mod wmgr
