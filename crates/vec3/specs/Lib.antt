pub mod Vec3
