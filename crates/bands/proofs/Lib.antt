pub mod BandLaws
