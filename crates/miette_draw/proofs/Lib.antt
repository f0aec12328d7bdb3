pub mod PictureSteps
pub mod DrawSteps
