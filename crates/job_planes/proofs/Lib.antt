pub mod PlaneStarts
