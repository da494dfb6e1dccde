-- Laws of the lease places in a container's bytes.
pub mod PlaceLaws
pub mod ChunkLaws
pub mod ChangeLaws
pub mod OperationLaws
